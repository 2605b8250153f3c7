-- What the put of the info and its change come to.
use Rattle.std.specs.Prelude.{ℕ, ◌≡◌, List, Bool, true, false, Option, Result, refl}
use Rattle.std.proofs.Common.{◌∙◌, sym, ap, subst, inl, inr}
use Rattle.std.proofs.lemmas.Bool.{false≢true}
use Rattle.conflicts.specs.declared.error.StepErr.{StepErr}
use Rattle.client.specs.Sites.{SiteNow}
use Rattle.jop_base.specs.declared.path.Path.TheVariants.{Info as InfoFile}
use Rattle.jop_target.specs.Replies.{IsReplyTo}
use Rattle.jop_target.specs.declared.call.Call.{Call}
use Rattle.jop_target.specs.declared.call.Call.TheVariants.{Put}
use Rattle.jop_target.specs.declared.reply.Reply.{Reply}
use Rattle.jop_target.specs.declared.reply.Reply.TheVariants.{Listed, Got, GotBlob, Absent, Done, Failed, TooLarge}
use Rattle.law_licences.specs.Deeds.{Deed}
use Rattle.law_licences.specs.Infos.{MayPutInfo, MaySetInfo, info_read}
use Rattle.law_licences.specs.Views.{Shown, View, view_from}
use Rattle.local_store.specs.declared.change.Change.TheVariants.{InfoIs}
use Rattle.local_store.specs.declared.tables.Tables.{Tables}
use Rattle.session_opening.proofs.Going.{went_ends, went_heard}
use Rattle.session_opening.proofs.Merging.{merges_none, merges_on, merges_put, puts_text}
use Rattle.session_opening.specs.Opening.{IsMerge, IsRead, Joins, MergesBetween, PutsInfo, SetsInfo, is_joining}
use Rattle.session.proofs.Behind.{behind, hears_as}
use Rattle.session.proofs.Ending.{does_as, does_nothing, ends_as, ends_then}
use Rattle.session.specs.Asking.{IsAnswer}
use Rattle.session.specs.Doing.{Does, Ends}
use Rattle.session.specs.Parts.{Changes, Hears, Nothing, Then}
use Rattle.session.specs.Sessions.{HearsOr}
use Rattle.session.specs.Work.{IsAtWork, WorkNow, view_of}
use Rattle.sync_info.specs.Info.{IsInfo}
use Rattle.sync_info.specs.Json.{info_text}
use Rattle.sync_info.specs.Merge.{merged}
use Rattle.sync_info.specs.declared.info.Info.{Info}

-- no call at all
abbrev pub none : Call → Bool
none call = false

-- of two infos it was found that they differ
pub differ : (info other : Info) (same : Bool) → (info ≡ other → same ≡ true) → same ≡ false
    → ¬ (info ≡ other)
differ info other same both found = λ is. absurd (false≢true (sym found ∙ both is))

-- ---- the put

pub put_done : (content : List ℕ) (reply : Reply) → IsReplyTo (Put InfoFile content) reply
    → ¬ (reply ≡ Failed) → (now : ℕ) × (reply ≡ Done now)
put_done content (Done now) shape heard = (now, refl)
put_done content Failed shape heard = absurd (heard refl)
put_done content (Absent now) shape heard = absurd shape
put_done content (Listed listing) shape heard = absurd shape
put_done content (Got now bytes) shape heard = absurd shape
put_done content (GotBlob now size) shape heard = absurd shape
put_done content (TooLarge size) shape heard = absurd shape

-- the info is the one that was read
pub puts_nothing : (info remote : Info) (sort : Call → Bool) (a : WorkNow) → info ≡ remote
    → IsAtWork a → Does (PutsInfo info remote) sort a a
puts_nothing info remote sort a same ready =
    does_as Nothing (PutsInfo info remote) sort a a (λ shown ds none. inl (same, none))
    (does_nothing sort a ready)

put_as : (info remote : Info) (text : List ℕ) (v : View) (ds : List Deed) (reply : Reply)
    → text ≡ info_text info → ¬ (info ≡ remote) → IsAnswer (Put InfoFile text) reply
    → Hears (Put InfoFile text) reply v ds → PutsInfo info remote v ds
put_as info remote text v ds reply is other answer h =
    let done = put_done text reply answer.0 answer.1 in
    inr (
      other,
      (
        done.0,
        subst (λ (t : List ℕ). Hears (Put InfoFile t) (Done done.0) v ds) is
            (subst (λ (y : Reply). Hears (Put InfoFile text) y v ds) done.1 h),
      ),
    )

pub puts_it : (info remote : Info) (text : List ℕ) (sort : Call → Bool) (a b : WorkNow)
    (result : Result (Unit {0}) StepErr) → text ≡ info_text info → ¬ (info ≡ remote)
    → HearsOr (Put InfoFile text) sort a result b → Ends (PutsInfo info remote) sort a result b
puts_it info remote text sort a b result is other h =
    hears_as (Put InfoFile text) (PutsInfo info remote) sort a b result
    (λ reply answer shown ds it.
    put_as info remote text (view_of shown a.site) ds reply is other answer it) h

may_put : (info remote : Info) (text : List ℕ) (d : SiteNow) (shown : Option Shown)
    → text ≡ info_text info → ¬ (info ≡ remote) → IsMerge info remote d
    → MayPutInfo (view_of shown d) text
may_put info remote text d shown is other m = record {
  remote = remote;
  read = m.read.last;
  text = is ∙ ap info_text m.is;
  differs = λ same. other (m.is ∙ same);
}

-- each put of the info has its licence, whatever becomes of this one
pub puts_merging : (info remote : Info) (text : List ℕ) (a b : WorkNow)
    (result : Result (Unit {0}) StepErr)
    → text ≡ info_text info → ¬ (info ≡ remote) → IsMerge info remote a.site
    → b.site.made ≡ a.site.made → HearsOr (Put InfoFile text) (puts_text text) a result b
    → MergesBetween a.site b.site
puts_merging info remote text a b result is other m made h =
    merges_put text a b (went_heard (Put InfoFile text) (puts_text text) a b result h) made
    (λ shown. may_put info remote text a.site shown is other m)

pub none_merging : (a : WorkNow) → IsAtWork a → MergesBetween a.site a.site
none_merging a ready = merges_none none a a (λ content. refl) (does_nothing none a ready).went

-- ---- the merge

pub is_merge : (info remote : Info) (t : Tables) (d : SiteNow) → IsInfo info → IsRead remote d
    → info ≡ merged t.info remote → t ≡ d.tables → IsMerge info remote d
is_merge info remote t d valid read is same = record {
  valid = valid;
  read = read;
  is = is ∙ ap (λ (x : Tables). merged x.info remote) same;
}

pub put_tables : (info remote : Info) (v : View) (ds : List Deed) → PutsInfo info remote v ds
    → (view_from v ds).tables ≡ v.tables
unfolding view_from
put_tables info remote v ds (inl h) = ap (λ (x : List Deed). (view_from v x).tables) h.1
put_tables info remote v ds (inr h) = ap (λ (x : List Deed). (view_from v x).tables) h.1.1

pub put_read : (info remote : Info) (v : View) (ds : List Deed) → PutsInfo info remote v ds
    → info_read (view_from v ds).calls ≡ info_read v.calls
unfolding view_from info_read
put_read info remote v ds (inl h) = ap (λ (x : List Deed). info_read (view_from v x).calls) h.1
put_read info remote v ds (inr h) = ap (λ (x : List Deed). info_read (view_from v x).calls) h.1.1

-- it is still the merge once it was put
pub still_merge : (info remote : Info) (sort : Call → Bool) (a b : WorkNow)
    → Does (PutsInfo info remote) sort a b → IsMerge info remote a.site
    → IsMerge info remote b.site
still_merge info remote sort a b h m =
    let tables = behind (λ t cs u us. u ≡ t) (PutsInfo info remote) sort a b
    (put_tables info remote) h in
    let read = behind (λ t cs u us. info_read us ≡ info_read cs) (PutsInfo info remote) sort a b
    (put_read info remote) h in
    is_merge info remote a.site.tables b.site m.valid
    (record { valid = m.read.valid; version = m.read.version; last = read ∙ m.read.last }) m.is
    (sym tables)

-- ---- the change

pub sets_nothing : (info own : Info) (sort : Call → Bool) (a : WorkNow) → info ≡ own
    → own ≡ a.site.tables.info → IsAtWork a → Does (SetsInfo info) sort a a
sets_nothing info own sort a same is ready =
    does_as Nothing (SetsInfo info) sort a a (λ shown ds none. inl (same ∙ is, none))
    (does_nothing sort a ready)

pub sets_it : (info : Info) (sort : Call → Bool) (a b : WorkNow)
    (result : Result (Unit {0}) StepErr) → ¬ (info ≡ a.site.tables.info)
    → Ends (Changes (InfoIs info)) sort a result b → Ends (SetsInfo info) sort a result b
sets_it info sort a b result other h =
    ends_as (Changes (InfoIs info)) (SetsInfo info) sort a b result
    (λ shown ds is. inr (other, is)) h

pub may_set : (info remote : Info) (d : SiteNow) (shown : Option Shown) → IsMerge info remote d
    → ¬ (info ≡ d.tables.info) → MaySetInfo (view_of shown d) info
may_set info remote d shown m other =
    record { remote = remote; read = m.read.last; is = m.is; differs = other }

-- ---- both

pub joins : (info remote : Info) (a b c : WorkNow) (result : Result (Unit {0}) StepErr)
    → IsMerge info remote a.site → Does (PutsInfo info remote) is_joining a b
    → Ends (SetsInfo info) is_joining b result c → Ends (Joins remote) is_joining a result c
joins info remote a b c result m h k =
    ends_as (Then (PutsInfo info remote) (SetsInfo info)) (Joins remote) is_joining a c result
    (λ shown ds. subst (λ (x : Info).
    Then (PutsInfo x remote) (SetsInfo x) (view_of shown a.site) ds) m.is)
    (ends_then (PutsInfo info remote) (SetsInfo info) is_joining a b c result h k)

pub joins_merging : (info remote : Info) (a b c : WorkNow) (result : Result (Unit {0}) StepErr)
    → Does (PutsInfo info remote) is_joining a b
    → ((sort : Call → Bool) → Ends (SetsInfo info) sort b result c)
    → MergesBetween a.site b.site → MergesBetween a.site c.site
joins_merging info remote a b c result h k first =
    merges_on (PutsInfo info remote) is_joining a b c h
    (went_ends (SetsInfo info) is_joining b c result (k is_joining)) first
    (merges_none none b c (λ content. refl) (went_ends (SetsInfo info) none b c result (k none)))

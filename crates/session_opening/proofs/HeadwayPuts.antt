-- How far an opening has come by the put of the merge, and by the client's own info.
use Rattle.std.specs.Prelude.{ℕ, ◌≡◌, ◌⊎◌, List, [], ◌∷◌, All, Bool, true, bytes_eq, if◌then◌else◌, IfErr, Option, Some, None, Result, Ok, Err, refl}
use Rattle.std.proofs.Common.{◌∙◌, sym, ap, subst, inl, inr}
use Rattle.std.proofs.lemmas.List.Elements.{All-head, All-tail}
use Rattle.conflicts.specs.declared.error.StepErr.{StepErr}
use Rattle.conflicts.specs.declared.error.StepErr.TheVariants.{KeeperFault, NoMemory}
use Rattle.jop_base.proofs.KeyedLaws.{bytes_eq-refl}
use Rattle.jop_base.specs.declared.path.Path.TheVariants.{Info as InfoFile}
use Rattle.jop_target.specs.declared.call.Call.{Call}
use Rattle.jop_target.specs.declared.call.Call.TheVariants.{Put}
use Rattle.jop_target.specs.declared.event.Event.{Event}
use Rattle.jop_target.specs.declared.event.Event.TheVariants.{Began, Sent, Called, Made, Ended}
use Rattle.jop_target.specs.declared.reply.Reply.{Reply}
use Rattle.jop_target.specs.declared.reply.Reply.TheVariants.{Failed}
use Rattle.law_licences.proofs.Joins.{view_from-append}
use Rattle.law_licences.proofs.Told.{calls_from-append}
use Rattle.law_licences.specs.Deeds.{Deed}
use Rattle.law_licences.specs.Trails.{calls_from, session_calls}
use Rattle.law_licences.specs.Views.{Heard, View, view_from, with_call}
use Rattle.lease.specs.Calls.{IsLeaseCall}
use Rattle.session.proofs.Behind.{behind}
use Rattle.session.proofs.LockDeeds.{about-locks}
use Rattle.session.specs.Asking.{AsksOnce}
use Rattle.session.specs.Doing.{Does, Ends as PartEnds, Went}
use Rattle.session.specs.Making.{IsUnkept}
use Rattle.session.specs.Sessions.{HearsOr}
use Rattle.session.specs.Steps.{IsStep}
use Rattle.session.specs.Work.{WorkNow}
use Rattle.session_opening.proofs.Going.{went_ends}
use Rattle.session_opening.proofs.Joined.{none, put_done, put_tables}
use Rattle.session_opening.proofs.Judged.{calls_got}
use Rattle.session_opening.proofs.Merged.{set_info}
use Rattle.session_opening.specs.Opening.{Joins, PutsInfo, ReadsInfo, SetsInfo, is_joining, is_reading}
use Rattle.session_opening.specs.Headway.{Headway, Unread, JustGot, JustPut, BeyondGet, BeyondPut, Halted, IsBeyond, IsOpened, IsSetInVain, OpensSo, StopsOpening, headway_by_put, headway_in, headway_of}
use Rattle.sync_info.specs.Json.{info_text}
use Rattle.sync_info.specs.Merge.{merged}
use Rattle.sync_info.specs.declared.info.Info.{Info}
use Rattle.session_opening.proofs.Headways.{got_stops, heard_progress, once_same, stops_as, unput_stops}

-- ---- the put

-- the target has the merge already
pub same_progress : (own info remote : Info) (a : WorkNow) → info ≡ remote
    → headway_in own a ≡ JustGot info remote → IsOpened info (headway_in own a)
same_progress own info remote a same is = subst (IsOpened info) (sym is) (refl, same)

put_alike : (info remote : Info) (text : List ℕ) → text ≡ info_text info
    → (if bytes_eq text (info_text info) then JustPut info else BeyondGet info remote) ≡ JustPut info
put_alike info remote text is =
    ap (λ (b : Bool). if b then JustPut info else BeyondGet info remote)
    (ap (λ (t : List ℕ). bytes_eq t (info_text info)) is ∙ bytes_eq-refl (info_text info))

pub put_progress : (own info remote : Info) (text : List ℕ) (sort : Call → Bool) (a b : WorkNow)
    (result : Result (Unit {0}) StepErr) → text ≡ info_text info → ¬ (info ≡ remote)
    → HearsOr (Put InfoFile text) sort a result b → AsksOnce (Put InfoFile text) a.site result b.site
    → headway_in own a ≡ JustGot info remote → OpensSo own info result (headway_in own b)
put_progress own info remote text sort a b (Ok done) is other h once got =
    let before = session_calls a.site.line.trail in
    let put = put_done text h.reply h.answer.0 h.answer.1 in
    let heard : headway_in own b ≡ JustPut info =
    ap (headway_of own) (calls_got (Put InfoFile text) h.reply sort a b h.does)
    ∙ (heard_progress own before (Put InfoFile text) (Some h.reply) (JustGot info remote) refl got
    ∙ (ap (λ (r : Reply). headway_by_put info remote (Put InfoFile text) (Some r)) put.1
    ∙ put_alike info remote text is)) in
    subst (IsOpened info) (sym heard) refl
put_progress own info remote text sort a b (Err e) is other h once got =
    let before = session_calls a.site.line.trail in
    elim once [
      | inl same ↦
          got_stops own info remote e (headway_in own b) (ap (headway_of own) same ∙ got) other
      | inr unheard ↦ unput_stops own info remote e (headway_in own b) (elim unheard [
        | inl sent ↦
            ap (headway_of own) sent
            ∙ heard_progress own before (Put InfoFile text) None (JustGot info remote) refl got
        | inr failed ↦
            ap (headway_of own) failed
            ∙ heard_progress own before (Put InfoFile text) (Some Failed) (JustGot info remote) refl
            got
      ]) other
    ]

-- ---- the change

quiet_call : (client : List ℕ) (calls : List Heard) (call : Call) (reply : Option Reply)
    → (none call ≡ true) ⊎ IsLeaseCall client call → with_call call reply calls ≡ calls
quiet_call client calls call reply (inl never) = absurd cc
quiet_call client calls call reply (inr own) =
    ap (λ (b : Bool). if b then calls else record { call = call; reply = reply } ∷ calls)
    (about-locks client call own)

calls_quiet : (client : List ℕ) (calls : List Heard) (es : List Event)
    → All (IsStep none client) es → calls_from calls es ≡ calls
unfolding calls_from
calls_quiet client calls [] each = refl
calls_quiet client calls (Sent call ∷ es) each =
    ap (λ (cs : List Heard). calls_from cs es)
    (quiet_call client calls call None (All-head (IsStep none client) (Sent call) es each))
    ∙ calls_quiet client calls es (All-tail (IsStep none client) (Sent call) es each)
calls_quiet client calls (Called call reply ∷ es) each =
    ap (λ (cs : List Heard). calls_from cs es)
    (quiet_call client calls call (Some reply)
    (All-head (IsStep none client) (Called call reply) es each))
    ∙ calls_quiet client calls es (All-tail (IsStep none client) (Called call reply) es each)
calls_quiet client calls (Made number ∷ es) each =
    calls_quiet client calls es (All-tail (IsStep none client) (Made number) es each)
calls_quiet client calls (Began ∷ es) each = absurd (All-head (IsStep none client) Began es each)
calls_quiet client calls (Ended ∷ es) each = absurd (All-head (IsStep none client) Ended es each)

-- nothing is called but about locks
unasked : (own : Info) (a b : WorkNow) → Went none a b → headway_in own b ≡ headway_in own a
unasked own a b w =
    let line = w.goes.line in
    ap (headway_of own)
    (ap session_calls line.trail
    ∙ (calls_from-append [] a.site.line.trail line.more
    ∙ calls_quiet a.lease.client (session_calls a.site.line.trail) line.more line.each))

-- it was tried in vain
pub set_in_vain : (info own : Info) (result : Result (Unit {0}) StepErr) → ¬ (info ≡ own)
    → IfErr result IsUnkept → IfErr result (IsSetInVain info own)
set_in_vain info own (Ok done) other fails = tt
set_in_vain info own (Err e) other fails = record { unkept = fails; other = other }

pub opened_short : (info other : Info) (o : Headway) → IsOpened info o → ¬ IsBeyond other o
opened_short info other (JustGot merge remote) is beyond = beyond
opened_short info other (JustPut merge) is beyond = beyond
opened_short info other (BeyondGet merge remote) is beyond = is
opened_short info other (BeyondPut merge) is beyond = is
opened_short info other Unread is beyond = is
opened_short info other Halted is beyond = is

vain_why : (own other : Info) (e : StepErr) → IsUnkept e → ¬ (other ≡ own)
    → (e ≡ NoMemory) ⊎ ((e ≡ KeeperFault) × ¬ (other ≡ own))
vain_why own other KeeperFault unkept differs = inr (refl, differs)
vain_why own other NoMemory unkept differs = inl refl
vain_why own other e unkept differs = absurd unkept

vain_stops : (own info : Info) (e : StepErr) (o : Headway) → IsSetInVain info own e
    → IsOpened info o → StopsOpening own e o
vain_stops own info e o vain is = record {
  short = λ other beyond. opened_short info other o is beyond;
  why = λ other opened.
      let same = once_same info other o (inl is) (inl opened) in
      vain_why own other e vain.unkept (λ it. vain.other (sym same ∙ it));
}

pub set_progress : (own info : Info) (a b : WorkNow) (result : Result (Unit {0}) StepErr)
    → ((sort : Call → Bool) → PartEnds (SetsInfo info) sort a result b)
    → IfErr result (IsSetInVain info own)
    → IsOpened info (headway_in own a) → OpensSo own info result (headway_in own b)
set_progress own info a b (Ok done) ends fails is =
    subst (IsOpened info)
    (sym
    (unasked own a b (went_ends {R = Unit {0}} (SetsInfo info) none a b (Ok done) (ends none)))) is
set_progress own info a b (Err e) ends fails is =
    stops_as own e (headway_in own a) (headway_in own b)
    (unasked own a b (went_ends {R = Unit {0}} (SetsInfo info) none a b (Err e) (ends none)))
    (vain_stops own info e (headway_in own a) fails is)

-- ---- tables

-- a reading leaves the client's own info
read_info : (remote : Info) (v : View) (ds : List Deed) → ReadsInfo remote v ds
    → (view_from v ds).tables ≡ v.tables
unfolding view_from
read_info remote v ds h = ap (λ (x : List Deed). (view_from v x).tables) h.1.1.1

pub info_read_by : (remote : Info) (sort : Call → Bool) (a b : WorkNow)
    → Does (ReadsInfo remote) sort a b → b.site.tables.info ≡ a.site.tables.info
info_read_by remote sort a b h =
    behind (λ t cs u us. u.info ≡ t.info) (ReadsInfo remote) sort a b
    (λ v ds is. ap (λ t. t.info) (read_info remote v ds is)) h

-- so does the put
pub info_put_by : (info remote : Info) (sort : Call → Bool) (a b : WorkNow)
    → Does (PutsInfo info remote) sort a b → b.site.tables.info ≡ a.site.tables.info
info_put_by info remote sort a b h =
    behind (λ t cs u us. u.info ≡ t.info) (PutsInfo info remote) sort a b
    (λ v ds is. ap (λ t. t.info) (put_tables info remote v ds is)) h

-- and then it is the merge
joined_info : (remote : Info) (v : View) (ds : List Deed) → Joins remote v ds
    → (view_from v ds).tables.info ≡ merged v.tables.info remote
joined_info remote v ds h =
    let info = merged v.tables.info remote in
    let m = view_from v h.first in
    ap (λ (x : List Deed). (view_from v x).tables.info) h.both
    ∙ (ap (λ (u : View). u.tables.info) (view_from-append v h.first h.second)
    ∙ set_info info m h.second h.behind)

pub info_joined_by : (remote : Info) (sort : Call → Bool) (a b : WorkNow)
    → Does (Joins remote) sort a b → b.site.tables.info ≡ merged a.site.tables.info remote
info_joined_by remote sort a b h =
    behind (λ t cs u us. u.info ≡ merged t.info remote) (Joins remote) sort a b
    (joined_info remote) h

-- ---- the joining

pub joins_progress : (own info remote : Info) (a b c : WorkNow) (result : Result (Unit {0}) StepErr)
    → info ≡ merged own remote → own ≡ a.site.tables.info
    → Does (PutsInfo info remote) is_joining a b
    → ((sort : Call → Bool) → PartEnds (SetsInfo info) sort b result c)
    → IfErr result (IsSetInVain info b.site.tables.info)
    → (headway_in own a ≡ JustGot info remote → OpensSo own info (Ok tt) (headway_in own b))
    → headway_in own a ≡ JustGot (merged own remote) remote
    → OpensSo own (merged own remote) result (headway_in own c)
joins_progress own info remote a b c result is same put ends fails opens got =
    let here : b.site.tables.info ≡ own = info_put_by info remote is_joining a b put ∙ sym same in
    subst (λ (i : Info). OpensSo own i result (headway_in own c)) is
    (set_progress own info b c result ends
    (subst (λ (i : Info). IfErr result (IsSetInVain info i)) here fails)
    (opens (got ∙ ap (λ (i : Info). JustGot i remote) (sym is))))

pub stops_put : (own info remote : Info) (a b : WorkNow) (e : StepErr) → info ≡ merged own remote
    → (headway_in own a ≡ JustGot info remote → StopsOpening own e (headway_in own b))
    → headway_in own a ≡ JustGot (merged own remote) remote
    → StopsOpening own e (headway_in own b)
stops_put own info remote a b e is stops got =
    stops (got ∙ ap (λ (i : Info). JustGot i remote) (sym is))

-- ---- the opening

pub opens_progress : (remote : Info) (a b c : WorkNow) (result : Result (Unit {0}) StepErr)
    → Does (ReadsInfo remote) is_reading a b → PartEnds (Joins remote) is_joining b result c
    → headway_in a.site.tables.info b ≡ JustGot (merged a.site.tables.info remote) remote
    → (headway_in b.site.tables.info b ≡ JustGot (merged b.site.tables.info remote) remote
    → OpensSo b.site.tables.info (merged b.site.tables.info remote) result
    (headway_in b.site.tables.info c))
    → OpensSo a.site.tables.info c.site.tables.info result (headway_in a.site.tables.info c)
opens_progress remote a b c (Ok done) reads joins got opens =
    let own = a.site.tables.info in
    let same : b.site.tables.info ≡ own = info_read_by remote is_reading a b reads in
    let opened = subst (λ (i : Info). headway_in i b ≡ JustGot (merged i remote) remote
    → OpensSo i (merged i remote) (Ok done) (headway_in i c)) same opens got in
    let info : c.site.tables.info ≡ merged own remote =
    info_joined_by remote is_joining b c joins ∙ ap (λ (i : Info). merged i remote) same in
    subst (λ (i : Info). OpensSo own i (Ok done) (headway_in own c)) (sym info) opened
opens_progress remote a b c (Err e) reads joins got opens =
    subst (λ (i : Info). headway_in i b ≡ JustGot (merged i remote) remote
    → OpensSo i (merged i remote) (Err e) (headway_in i c))
    (info_read_by remote is_reading a b reads) opens got

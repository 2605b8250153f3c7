-- How far an opening has come: what lasts, and how it stops.
use Rattle.std.specs.Prelude.{◌≡◌, ◌⊎◌, List, [], ◌∷◌, Bool, true, false, bytes_eq, if◌then◌else◌, length, Option, Some, None, refl}
use Rattle.std.proofs.Common.{◌∙◌, sym, ap, subst, inl, inr}
use Rattle.conflicts.specs.declared.error.StepErr.{StepErr}
use Rattle.conflicts.specs.declared.error.StepErr.TheVariants.{NoMemory}
use Rattle.jop_base.specs.declared.path.Path.TheVariants.{Info as InfoFile}
use Rattle.jop_target.specs.declared.call.Call.{Call}
use Rattle.jop_target.specs.declared.call.Call.TheVariants.{Put}
use Rattle.jop_target.specs.declared.reply.Reply.{Reply}
use Rattle.jop_target.specs.declared.reply.Reply.TheVariants.{Done}
use Rattle.law_licences.proofs.Told.{calls-view_from, calls_from-append}
use Rattle.law_licences.specs.Deeds.{Deed, Begins, Asks, Makes, MakesUntold, Ends, Stops, events_of}
use Rattle.law_licences.specs.Licences.{AreWork}
use Rattle.law_licences.specs.Trails.{session_calls}
use Rattle.law_licences.specs.Views.{Heard, View, is_about_locks, view_after_call, view_after_change, view_from, with_call}
use Rattle.session.specs.Doing.{Went}
use Rattle.session.specs.Work.{WorkNow, view_of}
use Rattle.session_opening.specs.Headway.{Headway, Unread, JustGot, JustPut, BeyondGet, BeyondPut, Halted, IsBeyond, IsOpened, StopsOpening, headway_by_put, headway_after, headway_in, headway_of}
use Rattle.sync_info.specs.Json.{info_text}
use Rattle.sync_info.specs.declared.info.Info.{Info}

-- ---- what lasts, whatever a session calls

-- each call leaves this
abbrev pub Lasts : Info → (Headway → Type 0) → Type 0
Lasts own P = (o : Headway) (h : Heard) → P o → P (headway_after own o h)

lasts_called : (own : Info) (P : Headway → Type 0) → Lasts own P → (about : Bool) (h : Heard)
    (calls : List Heard) → P (headway_of own calls)
    → P (headway_of own (if about then calls else h ∷ calls))
unfolding headway_of
lasts_called own P lasts true h calls is = is
lasts_called own P lasts false h calls is = lasts (headway_of own calls) h is

lasts_seen : (own : Info) (P : Headway → Type 0) → Lasts own P → (v : View) (ds : List Deed)
    → AreWork ds → P (headway_of own v.calls) → P (headway_of own (view_from v ds).calls)
unfolding AreWork view_from
lasts_seen own P lasts v [] work is = is
lasts_seen own P lasts v (Asks call reply ∷ ds) work is =
    lasts_seen own P lasts (view_after_call v call reply) ds work
    (lasts_called own P lasts (is_about_locks call) (record { call = call; reply = reply }) v.calls
    is)
lasts_seen own P lasts v (Makes change ∷ ds) work is =
    lasts_seen own P lasts (view_after_change v change) ds work.1 is
lasts_seen own P lasts v (Begins ∷ ds) work is = absurd work
lasts_seen own P lasts v (MakesUntold ∷ ds) work is = absurd work
lasts_seen own P lasts v (Ends ∷ ds) work is = absurd work
lasts_seen own P lasts v (Stops ∷ ds) work is = absurd work

pub lasts_on : (own : Info) (P : Headway → Type 0) → Lasts own P → (sort : Call → Bool)
    (a b : WorkNow) → Went sort a b → P (headway_in own a) → P (headway_in own b)
lasts_on own P lasts sort a b w is =
    let v = view_of None a.site in
    let n = length a.site.made in
    let calls : session_calls b.site.line.trail ≡ (view_from v w.deeds).calls =
    ap session_calls w.trail
    ∙ (calls_from-append [] a.site.line.trail (events_of n w.deeds)
    ∙ sym (calls-view_from n v w.deeds w.work)) in
    subst (λ (cs : List Heard). P (headway_of own cs)) (sym calls)
    (lasts_seen own P lasts v w.deeds w.work is)

pub halted_on : (own : Info) (sort : Call → Bool) (a b : WorkNow) → Went sort a b
    → headway_in own a ≡ Halted → headway_in own b ≡ Halted
halted_on own sort a b w is =
    lasts_on own (λ o. o ≡ Halted)
    (λ o h halted. ap (λ (x : Headway). headway_after own x h) halted) sort a b w is

-- the session was opened, and may have called more since
abbrev pub IsOnce : Info → Headway → Type 0
IsOnce info headway = IsOpened info headway ⊎ IsBeyond info headway

put_chosen : (info merge remote : Info) (same : Bool) → (info ≡ merge) × (merge ≡ remote)
    → IsOnce info (if same then JustPut merge else BeyondGet merge remote)
put_chosen info merge remote true is = inl is.0
put_chosen info merge remote false is = inr is

put_once : (info merge remote : Info) (call : Call) (reply : Option Reply)
    → (info ≡ merge) × (merge ≡ remote) → IsOnce info (headway_by_put merge remote call reply)
put_once info merge remote (Put InfoFile content) (Some (Done now)) is =
    put_chosen info merge remote (bytes_eq content (info_text merge)) is
put_once info merge remote call reply is = inr is

once_lasts : (own info : Info) (o : Headway) (h : Heard) → IsOnce info o
    → IsOnce info (headway_after own o h)
once_lasts own info (JustGot merge remote) h (inl is) =
    put_once info merge remote h.call h.reply is
once_lasts own info (JustGot merge remote) h (inr never) = absurd never
once_lasts own info (JustPut merge) h (inl is) = inr is
once_lasts own info (JustPut merge) h (inr never) = absurd never
once_lasts own info (BeyondGet merge remote) h (inl never) = absurd never
once_lasts own info (BeyondGet merge remote) h (inr is) = inr is
once_lasts own info (BeyondPut merge) h (inl never) = absurd never
once_lasts own info (BeyondPut merge) h (inr is) = inr is
once_lasts own info Unread h (inl never) = absurd never
once_lasts own info Unread h (inr never) = absurd never
once_lasts own info Halted h (inl never) = absurd never
once_lasts own info Halted h (inr never) = absurd never

-- whatever comes behind an opening
pub once_on : (own info : Info) (sort : Call → Bool) (a b : WorkNow) → Went sort a b
    → IsOpened info (headway_in own a) → IsOnce info (headway_in own b)
once_on own info sort a b w is =
    lasts_on own (IsOnce info) (once_lasts own info) sort a b w (inl is)

-- there is one such info
pub once_same : (info other : Info) (o : Headway) → IsOnce info o → IsOnce other o
    → other ≡ info
once_same info other (JustGot merge remote) (inl is) (inl other_is) = other_is.0 ∙ sym is.0
once_same info other (JustPut merge) (inl is) (inl other_is) = other_is ∙ sym is
once_same info other (BeyondGet merge remote) (inr is) (inr other_is) = other_is.0 ∙ sym is.0
once_same info other (BeyondPut merge) (inr is) (inr other_is) = other_is ∙ sym is
once_same info other (JustGot merge remote) (inr never) it = absurd never
once_same info other (JustGot merge remote) (inl is) (inr never) = absurd never
once_same info other (JustPut merge) (inr never) it = absurd never
once_same info other (JustPut merge) (inl is) (inr never) = absurd never
once_same info other (BeyondGet merge remote) (inl never) it = absurd never
once_same info other (BeyondGet merge remote) (inr is) (inl never) = absurd never
once_same info other (BeyondPut merge) (inl never) it = absurd never
once_same info other (BeyondPut merge) (inr is) (inl never) = absurd never
once_same info other Unread (inl never) it = absurd never
once_same info other Unread (inr never) it = absurd never
once_same info other Halted (inl never) it = absurd never
once_same info other Halted (inr never) it = absurd never

-- ---- what stops an opening

pub stops_as : (own : Info) (e : StepErr) (o p : Headway) → p ≡ o → StopsOpening own e o
    → StopsOpening own e p
stops_as own e o p is h = subst (StopsOpening own e) (sym is) h

pub halted_stops : (own : Info) (e : StepErr) (o : Headway) → o ≡ Halted → StopsOpening own e o
halted_stops own e o is =
    stops_as own e Halted o is (record { short = λ info never. never; why = λ info never. absurd never })

pub unread_stops : (own : Info) (e : StepErr) (o : Headway) → o ≡ Unread → StopsOpening own e o
unread_stops own e o is =
    stops_as own e Unread o is (record { short = λ info never. never; why = λ info never. absurd never })

-- the merge is still to be put
pub got_stops : (own info remote : Info) (e : StepErr) (o : Headway) → o ≡ JustGot info remote
    → ¬ (info ≡ remote) → StopsOpening own e o
got_stops own info remote e o is other =
    stops_as own e (JustGot info remote) o is
    (record { short = λ i never. never; why = λ i opened. absurd (other opened.1) })

pub unput_stops : (own info remote : Info) (e : StepErr) (o : Headway) → o ≡ BeyondGet info remote
    → ¬ (info ≡ remote) → StopsOpening own e o
unput_stops own info remote e o is other =
    stops_as own e (BeyondGet info remote) o is
    (record { short = λ i beyond. other beyond.1; why = λ i never. absurd never })

-- there was no memory
pub starved_stops : (own info remote : Info) (o : Headway) → o ≡ JustGot info remote
    → StopsOpening own NoMemory o
starved_stops own info remote o is =
    stops_as own NoMemory (JustGot info remote) o is
    (record { short = λ i never. never; why = λ i opened. inl refl })

-- ---- a call

pub heard_progress : (own : Info) (calls : List Heard) (call : Call) (reply : Option Reply)
    (o : Headway) → is_about_locks call ≡ false → headway_of own calls ≡ o
    → headway_of own (with_call call reply calls)
    ≡ headway_after own o (record { call = call; reply = reply })
unfolding headway_of
heard_progress own calls call reply o about is =
    ap (λ (b : Bool). headway_of own (if b then calls else record { call = call; reply = reply } ∷ calls))
    about
    ∙ ap (λ (x : Headway). headway_after own x (record { call = call; reply = reply })) is

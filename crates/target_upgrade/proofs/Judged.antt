-- The verdict on a target that is to be upgraded, by what a session's calls come to.
use Rattle.std.proofs.Common.{◌≡◌, ◌≤◌, ◌∙◌, refl, sym, ap, subst, inl, inr, arith, ℕ, zero, suc, Bool, List, [], ◌∷◌, ◌++◌, true, false, if◌then◌else◌, Option, Some, None, Result, Ok, Err}
use Rattle.std.specs.Prelude.{All, nat_lt}
use Rattle.std.proofs.lemmas.Bool.Decides.{nat_tests}
use Rattle.jop_base.specs.declared.dir.Dir.TheVariants.{Locks}
use Rattle.jop_base.specs.declared.path.Path.{Path}
use Rattle.jop_base.specs.declared.path.Path.TheVariants.{Info as InfoFile}
use Rattle.jop_target.specs.declared.call.Call.{Call}
use Rattle.jop_target.specs.declared.call.Call.TheVariants.{List as ListDir, Get, Put, Delete, MakeDir}
use Rattle.jop_target.specs.declared.event.Event.{Event}
use Rattle.jop_target.specs.declared.event.Event.TheVariants.{Began, Sent, Called, Made, Ended}
use Rattle.jop_target.specs.declared.reply.Reply.{Reply}
use Rattle.jop_target.specs.declared.reply.Reply.TheVariants.{Listed, Got, GotBlob, Absent, Done, Failed, TooLarge}
use Rattle.jop_target.specs.Trail.{LineNow, EndsWith}
use Rattle.lease.specs.Calls.{IsLeaseCall, IsLeaseEvent, LeaseGoesOn}
use Rattle.lease.specs.Work.{Works}
use Rattle.lease.specs.declared.error.LeaseErr.{LeaseErr}
use Rattle.lease.specs.declared.error.LeaseErr.TheVariants.{Busy, Lost, TargetFault, NoMemory}
use Rattle.lease.specs.declared.lease.Lease.{Lease}
use Rattle.sync_info.specs.Read.{info_in}
use Rattle.sync_info.specs.declared.info.Info.{Info}
use Rattle.target_upgrade.specs.Answers.{IsCall, WorkGoesOn}
use Rattle.target_upgrade.specs.Reading.{GivesBytes, GivesInfo, IsBadReply, ReplyTells}
use Rattle.target_upgrade.specs.Steps.{ReadsOld, SUPPORTED, after_info, starts_from, starts_with}
use Rattle.target_upgrade.specs.Verdict.{UpgradeVerdict, AwaitsInfo, CanUpgrade, IsNewer, IsUnreadable, Unanswered, IsJudgedOnce, FindsInOrder, StopsInOrder, judged_info, judged_reply, judged_version, is_on_locks, is_in_order, judged, judged_by, upgrade_verdict_after, upgrade_verdict_from, upgrade_verdict_of}
use Rattle.target_upgrade.specs.declared.reading.ReadErr.{ReadErr}
use Rattle.target_upgrade.specs.declared.reading.ReadErr.TheVariants.{BadInfo, Lease as LeaseStops}

-- ---- the fold

pub verdict_from-append : (v : UpgradeVerdict) (xs ys : List Event) →
    upgrade_verdict_from v (xs ++ ys) ≡ upgrade_verdict_from (upgrade_verdict_from v xs) ys
unfolding upgrade_verdict_from
verdict_from-append v [] ys = refl
verdict_from-append v (x ∷ xs) ys = verdict_from-append (upgrade_verdict_after v x) xs ys

-- a call that was answered
verdict_called : (old new : List Event) (call : Call) (reply : Reply) →
    new ≡ old ++ Called call reply ∷ [] →
    upgrade_verdict_of new ≡ judged (upgrade_verdict_of old) call (Some reply)
unfolding upgrade_verdict_from
verdict_called old new call reply is =
    ap upgrade_verdict_of is ∙ verdict_from-append AwaitsInfo old (Called call reply ∷ [])

-- or whose reply isn't known
verdict_sent : (old new : List Event) (call : Call) → new ≡ old ++ Sent call ∷ [] →
    upgrade_verdict_of new ≡ judged (upgrade_verdict_of old) call None
unfolding upgrade_verdict_from
verdict_sent old new call is =
    ap upgrade_verdict_of is ∙ verdict_from-append AwaitsInfo old (Sent call ∷ [])

-- ---- the calls of a lease

on_locks : (client : List ℕ) (call : Call) → IsLeaseCall client call → is_on_locks call ≡ true
on_locks client (MakeDir Locks) own = refl
on_locks client (ListDir Locks) own = refl
on_locks client (Put path content) own =
    ap (λ (p : Path). is_on_locks (Put p content)) own.1
on_locks client (Delete path) own = ap (λ (p : Path). is_on_locks (Delete p)) own.1
on_locks client call own = absurd own

judged_lease : (client : List ℕ) (v : UpgradeVerdict) (call : Call) (reply : Option Reply) →
    IsLeaseCall client call → judged v call reply ≡ v
judged_lease client v call reply own =
    ap (λ (b : Bool). if b then v else judged_by v call reply) (on_locks client call own)

rest : (P : Event → Type 0) (e : Event) (es : List Event) → All P (e ∷ es) → All P es
rest P e es h = λ i d lt. h (suc i) d (omega (arith, lt))

verdict_leased : (client : List ℕ) (v : UpgradeVerdict) (es : List Event) →
    All (IsLeaseEvent client) es → upgrade_verdict_from v es ≡ v
unfolding upgrade_verdict_from
verdict_leased client v [] h = refl
verdict_leased client v (Sent call ∷ es) h =
    ap (λ (w : UpgradeVerdict). upgrade_verdict_from w es)
    (judged_lease client v call None (h 0 (Sent call) (omega arith)))
    ∙ verdict_leased client v es (rest (IsLeaseEvent client) (Sent call) es h)
verdict_leased client v (Called call reply ∷ es) h =
    ap (λ (w : UpgradeVerdict). upgrade_verdict_from w es)
    (judged_lease client v call (Some reply) (h 0 (Called call reply) (omega arith)))
    ∙ verdict_leased client v es (rest (IsLeaseEvent client) (Called call reply) es h)
verdict_leased client v (Began ∷ es) h = absurd (h 0 Began (omega arith))
verdict_leased client v (Made number ∷ es) h = absurd (h 0 Began (omega arith))
verdict_leased client v (Ended ∷ es) h = absurd (h 0 Began (omega arith))

-- they say nothing
pub verdict_locks : (client : List ℕ) (old new : LineNow) → LeaseGoesOn client old new →
    upgrade_verdict_of new.trail ≡ upgrade_verdict_of old.trail
verdict_locks client old new h =
    ap upgrade_verdict_of h.line.trail
    ∙ (verdict_from-append AwaitsInfo old.trail h.line.more
    ∙ verdict_leased client (upgrade_verdict_of old.trail) h.line.more h.line.each)

-- ---- a target that can be upgraded

can_still : (about : Bool) → (if about then CanUpgrade else CanUpgrade) ≡ CanUpgrade
can_still true = refl
can_still false = refl

can_from : (es : List Event) → All IsCall es → upgrade_verdict_from CanUpgrade es ≡ CanUpgrade
unfolding upgrade_verdict_from
can_from [] h = refl
can_from (Sent call ∷ es) h =
    ap (λ (w : UpgradeVerdict). upgrade_verdict_from w es) (can_still (is_on_locks call))
    ∙ can_from es (rest IsCall (Sent call) es h)
can_from (Called call reply ∷ es) h =
    ap (λ (w : UpgradeVerdict). upgrade_verdict_from w es) (can_still (is_on_locks call))
    ∙ can_from es (rest IsCall (Called call reply) es h)
can_from (Began ∷ es) h = absurd (h 0 Began (omega arith))
can_from (Made number ∷ es) h = absurd (h 0 Began (omega arith))
can_from (Ended ∷ es) h = absurd (h 0 Began (omega arith))

-- whatever is called, it can be
pub can_goes : (client : List ℕ) (old new : LineNow) → upgrade_verdict_of old.trail ≡ CanUpgrade →
    WorkGoesOn client old new → upgrade_verdict_of new.trail ≡ CanUpgrade
can_goes client old new can h =
    let line = h.goes.line in
    ap upgrade_verdict_of line.trail
    ∙ (verdict_from-append AwaitsInfo old.trail line.more
    ∙ (ap (λ (v : UpgradeVerdict). upgrade_verdict_from v line.more) can
    ∙ can_from line.more line.each))

-- ---- one call

pub asked_once : (lease now : Lease) (old new : LineNow) (call : Call) (before after : List ℕ)
    (result : Result (Unit {0}) LeaseErr) → Works lease now call before old new after result →
    IsJudgedOnce call old.trail result new.trail
asked_once lease now old new call before after (Ok done) h =
    let locks = verdict_locks lease.client old h.called.mid h.called.ready.goes in (
      h.reply,
      (h.called.mid.trail, h.called.answered.trail),
      verdict_called h.called.mid.trail new.trail call h.reply h.called.answered.trail
          ∙ ap (λ (v : UpgradeVerdict). judged v call (Some h.reply)) locks,
    )
asked_once lease now old new call before after (Err (Lost seen)) h =
    inl (verdict_locks lease.client old new h.0.goes)
asked_once lease now old new call before after (Err TargetFault) (fails, inl vain) =
    inl (verdict_locks lease.client old new vain.goes)
asked_once lease now old new call before after (Err TargetFault) (fails, inr called) =
    inr (inr (verdict_called called.mid.trail new.trail call Failed called.answered.trail
    ∙ ap (λ (v : UpgradeVerdict). judged v call (Some Failed))
    (verdict_locks lease.client old called.mid called.ready.goes)))
asked_once lease now old new call before after (Err NoMemory) (heard, inl vain) =
    inl (verdict_locks lease.client old new vain.goes)
asked_once lease now old new call before after (Err NoMemory) (heard, inr called) =
    let locks = verdict_locks lease.client old called.mid called.ready.goes in
    elim called.unheard [
      | inl none ↦ inl (ap (λ (l : LineNow). upgrade_verdict_of l.trail) none.0 ∙ locks)
      | inr sent ↦
          inr (inl (verdict_sent called.mid.trail new.trail call sent.trail
          ∙ ap (λ (v : UpgradeVerdict). judged v call None) locks))
    ]
asked_once lease now old new call before after (Err (Busy lock moment)) h = absurd h

-- ---- what stops a session before any refusal is due

stops_as : (e : LeaseErr) (v w : UpgradeVerdict) → w ≡ v → StopsInOrder e v → StopsInOrder e w
stops_as e v w is h = subst (λ (x : UpgradeVerdict). StopsInOrder e x) (sym is) h

pub unread_stops : (e : LeaseErr) (v : UpgradeVerdict) → v ≡ AwaitsInfo → StopsInOrder e v
unread_stops e v is = stops_as e AwaitsInfo v is (record { ordered = refl; starved = λ no. absurd cc })

unanswered_stops : (e : LeaseErr) (v : UpgradeVerdict) → v ≡ Unanswered → StopsInOrder e v
unanswered_stops e v is =
    stops_as e Unanswered v is (record { ordered = refl; starved = λ no. absurd cc })

pub can_stops : (e : LeaseErr) (v : UpgradeVerdict) → v ≡ CanUpgrade → StopsInOrder e v
can_stops e v is = stops_as e CanUpgrade v is (record { ordered = refl; starved = λ no. absurd cc })

-- the get of the info gave nothing
pub found_untold : (old new : List Event) (e : LeaseErr) →
    IsJudgedOnce (Get InfoFile) old (Err e) new → upgrade_verdict_of old ≡ AwaitsInfo →
    StopsInOrder e (upgrade_verdict_of new)
found_untold old new e once unread = elim once [
  | inl same ↦ unread_stops e (upgrade_verdict_of new) (same ∙ unread)
  | inr asked ↦ unanswered_stops e (upgrade_verdict_of new) (elim asked [
    | inl sent ↦ sent ∙ ap (λ (v : UpgradeVerdict). judged v (Get InfoFile) None) unread
    | inr failed ↦
        failed ∙ ap (λ (v : UpgradeVerdict). judged v (Get InfoFile) (Some Failed)) unread
  ])
]

-- ---- the info

-- its reply was read
pub read_judged : (old new : List Event) (r : Reply) →
    IsJudgedOnce (Get InfoFile) old (Ok tt) new →
    ((c : Call) (y : Reply) → EndsWith new c y → r ≡ y) → upgrade_verdict_of old ≡ AwaitsInfo →
    upgrade_verdict_of new ≡ judged_reply (Some r)
read_judged old new r once last unread =
    once.2
    ∙ (ap (λ (v : UpgradeVerdict). judged v (Get InfoFile) (Some once.0)) unread
    ∙ ap (λ (y : Reply). judged_reply (Some y)) (sym (last (Get InfoFile) once.0 once.1)))

bad_judged : (r : Reply) → IsBadReply r → judged_reply (Some r) ≡ IsUnreadable
bad_judged (Got now content) bad = ap judged_info bad
bad_judged (TooLarge len) bad = refl
bad_judged (Absent now) bad = absurd bad
bad_judged (Listed listing) bad = absurd bad
bad_judged (GotBlob now len) bad = absurd bad
bad_judged (Done now) bad = absurd bad
bad_judged Failed bad = absurd bad

given_judged : (info : Info) (r : Reply) → GivesInfo info r →
    judged_reply (Some r) ≡ judged_version info.version
given_judged info (Got now content) gives = ap judged_info gives
given_judged info (TooLarge len) gives = absurd gives
given_judged info (Absent now) gives = absurd gives
given_judged info (Listed listing) gives = absurd gives
given_judged info (GotBlob now len) gives = absurd gives
given_judged info (Done now) gives = absurd gives
given_judged info Failed gives = absurd gives

chosen_ordered : (newer : Bool) (version : ℕ) →
    is_in_order (if newer then IsNewer version else CanUpgrade) ≡ true
chosen_ordered true version = refl
chosen_ordered false version = refl

info_ordered : (o : Option Info) → is_in_order (judged_info o) ≡ true
info_ordered None = refl
info_ordered (Some info) = chosen_ordered (nat_lt SUPPORTED info.version) info.version

bytes_ordered : (r : Reply) → GivesBytes r → is_in_order (judged_reply (Some r)) ≡ true
bytes_ordered (Got now content) gives = info_ordered (info_in content)
bytes_ordered (TooLarge len) gives = absurd gives
bytes_ordered (Absent now) gives = absurd gives
bytes_ordered (Listed listing) gives = absurd gives
bytes_ordered (GotBlob now len) gives = absurd gives
bytes_ordered (Done now) gives = absurd gives
bytes_ordered Failed gives = absurd gives

told_none : (r : Reply) (e : ReadErr) → ReplyTells r (Err e) →
    FindsInOrder (Err e) (judged_reply (Some r))
told_none r BadInfo tells = bad_judged r tells.1
told_none r (LeaseStops e) tells =
    record { ordered = bytes_ordered r tells.1; starved = λ due. tells.0 }

-- no info was told
pub none_told : (old new : List Event) (r : Reply) (e : ReadErr) →
    IsJudgedOnce (Get InfoFile) old (Ok tt) new →
    ((c : Call) (y : Reply) → EndsWith new c y → r ≡ y) → ReplyTells r (Err e) →
    upgrade_verdict_of old ≡ AwaitsInfo → FindsInOrder (Err e) (upgrade_verdict_of new)
none_told old new r e once last tells unread =
    subst (λ (v : UpgradeVerdict). FindsInOrder (Err e) v)
    (sym (read_judged old new r once last unread)) (told_none r e tells)

-- an info was told
pub some_told : (old new : List Event) (r : Reply) (info : Info) →
    IsJudgedOnce (Get InfoFile) old (Ok tt) new →
    ((c : Call) (y : Reply) → EndsWith new c y → r ≡ y) → ReplyTells r (Ok (Some info)) →
    upgrade_verdict_of old ≡ AwaitsInfo → upgrade_verdict_of new ≡ judged_version info.version
some_told old new r info once last tells unread =
    read_judged old new r once last unread ∙ given_judged info r tells.2

-- ---- there is none

never_old : (version : ℕ) (info : Info) → starts_from version info ≡ ReadsOld → ⊥
never_old zero info is = cc
never_old (suc zero) info is = cc
never_old (suc (suc zero)) info is = cc
never_old (suc (suc (suc zero))) info is = cc
never_old (suc (suc (suc (suc n)))) info is = cc

none_old : (o : Option Info) → starts_with o ≡ ReadsOld → ⊥
none_old None is = cc
none_old (Some info) is = never_old info.version info is

absent_can : (r : Reply) → after_info r ≡ ReadsOld → judged_reply (Some r) ≡ CanUpgrade
absent_can (Got now content) is = absurd (none_old (info_in content) is)
absent_can (Absent now) is = refl
absent_can (TooLarge len) is = cc
absent_can (Listed listing) is = cc
absent_can (GotBlob now len) is = cc
absent_can (Done now) is = cc
absent_can Failed is = cc

-- so an upgrade may go on
pub absent_told : (old new : List Event) (r : Reply) →
    IsJudgedOnce (Get InfoFile) old (Ok tt) new →
    ((c : Call) (y : Reply) → EndsWith new c y → r ≡ y) → ReplyTells r (Ok None) →
    upgrade_verdict_of old ≡ AwaitsInfo → upgrade_verdict_of new ≡ CanUpgrade
absent_told old new r once last tells unread =
    read_judged old new r once last unread ∙ absent_can r tells

-- an old version
pub old_told : (version : ℕ) (v : UpgradeVerdict) → version ≤ 1 → v ≡ CanUpgrade →
    v ≡ judged_version version
old_told version v small is =
    let not_newer : nat_lt SUPPORTED version ≡ false = grind (arith, nat_tests) in
    is ∙ sym (ap (λ (b : Bool). if b then IsNewer version else CanUpgrade) not_newer)

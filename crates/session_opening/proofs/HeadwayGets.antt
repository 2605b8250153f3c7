-- How far an opening has come by the get of the target's info.
use Rattle.std.specs.Prelude.{ℕ, ◌≡◌, ◌<◌, Bool, true, false, nat_eq, if◌then◌else◌, Option, Some, None, Result, Ok, Err, refl}
use Rattle.std.proofs.Common.{arith, ◌∙◌, sym, ap, subst, inl, inr}
use Rattle.std.proofs.lemmas.Bool.Decides.{nat_tests}
use Rattle.conflicts.specs.declared.error.StepErr.{StepErr}
use Rattle.conflicts.specs.declared.error.StepErr.TheVariants.{NoMemory, Refused}
use Rattle.conflicts.specs.declared.refusal.Refusal.TheVariants.{TargetOlder, TargetNewer, BadInfo}
use Rattle.jop_base.specs.declared.path.Path.TheVariants.{Info as InfoFile}
use Rattle.jop_target.specs.declared.call.Call.{Call}
use Rattle.jop_target.specs.declared.call.Call.TheVariants.{Get}
use Rattle.jop_target.specs.declared.reply.Reply.{Reply}
use Rattle.jop_target.specs.declared.reply.Reply.TheVariants.{Listed, Got, GotBlob, Absent, Done, Failed, TooLarge}
use Rattle.law_licences.specs.Trails.{session_calls}
use Rattle.session.proofs.Behind.{went_given_up}
use Rattle.session.specs.Asking.{IsAskedInVain}
use Rattle.session.specs.Doing.{Went}
use Rattle.session.specs.Sessions.{HasHeard}
use Rattle.session.specs.Work.{WorkNow}
use Rattle.session_opening.proofs.Joined.{none}
use Rattle.session_opening.proofs.Judged.{calls_got}
use Rattle.session_opening.specs.Opening.{IsTakenInfo, ReadsOldOr, TellsInfo, is_reading}
use Rattle.session_opening.specs.Headway.{Unread, JustGot, Halted, GetsSo, StopsOpening, headway_by_get, headway_by_told, headway_by_version, headway_in, headway_of}
use Rattle.sync_info.specs.Merge.{merged}
use Rattle.sync_info.specs.Read.{info_in}
use Rattle.sync_info.specs.declared.info.Info.{Info}
use Rattle.target_upgrade.specs.Reading.{GivesBytes, GivesInfo, IsBadReply}
use Rattle.target_upgrade.specs.Steps.{SUPPORTED}
use Rattle.session_opening.proofs.Headways.{halted_on, halted_stops, heard_progress, starved_stops, stops_as, unread_stops}

-- ---- the get of the info

got_progress : (own : Info) (sort : Call → Bool) (a b : WorkNow)
    → (h : HasHeard (Get InfoFile) sort a b) → headway_in own a ≡ Unread
    → headway_in own b ≡ headway_by_get own (Get InfoFile) (Some h.reply)
got_progress own sort a b h is =
    ap (headway_of own) (calls_got (Get InfoFile) h.reply sort a b h.does)
    ∙ heard_progress own (session_calls a.site.line.trail) (Get InfoFile) (Some h.reply) Unread refl
    is

pub info_vain : (own : Info) (a b : WorkNow) (e : StepErr)
    → IsAskedInVain (Get InfoFile) a.site b.site → headway_in own a ≡ Unread
    → StopsOpening own e (headway_in own b)
info_vain own a b e vain is =
    let before = session_calls a.site.line.trail in
    elim vain [
      | inl same ↦ unread_stops own e (headway_in own b) (ap (headway_of own) same ∙ is)
      | inr unheard ↦ halted_stops own e (headway_in own b) (elim unheard [
        | inl none ↦
            ap (headway_of own) none
            ∙ heard_progress own before (Get InfoFile) None Unread refl is
        | inr failed ↦
            ap (headway_of own) failed
            ∙ heard_progress own before (Get InfoFile) (Some Failed) Unread refl is
      ])
    ]

bad_progress : (own : Info) (reply : Reply) → IsBadReply reply
    → headway_by_get own (Get InfoFile) (Some reply) ≡ Halted
bad_progress own (Got now content) bad = ap (headway_by_told own) bad
bad_progress own (TooLarge len) bad = refl
bad_progress own (Absent now) bad = absurd bad
bad_progress own (Listed listing) bad = absurd bad
bad_progress own (GotBlob now len) bad = absurd bad
bad_progress own (Done now) bad = absurd bad
bad_progress own Failed bad = absurd bad

given_progress : (own info : Info) (reply : Reply) → GivesInfo info reply
    → headway_by_get own (Get InfoFile) (Some reply) ≡ headway_by_version own info
given_progress own info (Got now content) gives = ap (headway_by_told own) gives
given_progress own info (TooLarge len) gives = absurd gives
given_progress own info (Absent now) gives = absurd gives
given_progress own info (Listed listing) gives = absurd gives
given_progress own info (GotBlob now len) gives = absurd gives
given_progress own info (Done now) gives = absurd gives
given_progress own info Failed gives = absurd gives

version_starves : (own info remote : Info) (known : Bool)
    → StopsOpening own NoMemory (if known then JustGot info remote else Halted)
version_starves own info remote true = starved_stops own info remote (JustGot info remote) refl
version_starves own info remote false = halted_stops own NoMemory Halted refl

told_starves : (own : Info) (o : Option Info) → StopsOpening own NoMemory (headway_by_told own o)
told_starves own None = halted_stops own NoMemory Halted refl
told_starves own (Some remote) =
    version_starves own (merged own remote) remote (nat_eq remote.version SUPPORTED)

bytes_starve : (own : Info) (reply : Reply) → GivesBytes reply
    → StopsOpening own NoMemory (headway_by_get own (Get InfoFile) (Some reply))
bytes_starve own (Got now content) gives = told_starves own (info_in content)
bytes_starve own (TooLarge len) gives = absurd gives
bytes_starve own (Absent now) gives = absurd gives
bytes_starve own (Listed listing) gives = absurd gives
bytes_starve own (GotBlob now len) gives = absurd gives
bytes_starve own (Done now) gives = absurd gives
bytes_starve own Failed gives = absurd gives

-- no info was told
pub none_progress : (own : Info) (sort : Call → Bool) (a b : WorkNow) (answer : Reply) (e : StepErr)
    → (h : HasHeard (Get InfoFile) sort a b) → answer ≡ h.reply → TellsInfo answer (Err e)
    → headway_in own a ≡ Unread → StopsOpening own e (headway_in own b)
none_progress own sort a b answer (Refused BadInfo) h same tells is =
    halted_stops own (Refused BadInfo) (headway_in own b)
    (got_progress own sort a b h is ∙ bad_progress own h.reply (subst IsBadReply same tells))
none_progress own sort a b answer NoMemory h same tells is =
    stops_as own NoMemory (headway_by_get own (Get InfoFile) (Some h.reply)) (headway_in own b)
    (got_progress own sort a b h is) (bytes_starve own h.reply (subst GivesBytes same tells))
none_progress own sort a b answer e h same tells is = absurd tells

-- it isn't there, whatever the old version's file tells
went_old : (a b : WorkNow) (result : Result ℕ StepErr) → ReadsOldOr a result b
    → Went is_reading a b
went_old a b (Ok version) h = h.1.went
went_old a b (Err e) h = went_given_up is_reading a b e h

pub absent_progress : (own : Info) (a b c : WorkNow) (answer : Reply)
    (result : Result ℕ StepErr) (e : StepErr)
    → (h : HasHeard (Get InfoFile) is_reading a b) → answer ≡ h.reply → TellsInfo answer (Ok None)
    → ReadsOldOr b result c → headway_in own a ≡ Unread
    → StopsOpening own e (headway_in own c)
absent_progress own a b c answer result e h same tells old is =
    halted_stops own e (headway_in own c)
    (halted_on own is_reading b c (went_old b c result old)
    (got_progress own is_reading a b h is
    ∙ ap (λ (r : Reply). headway_by_get own (Get InfoFile) (Some r)) (sym same ∙ tells.1)))

older_progress : (own info : Info) → info.version < SUPPORTED → headway_by_version own info ≡ Halted
older_progress own info less =
    let other : nat_eq info.version SUPPORTED ≡ false = grind (arith, nat_tests) in
    ap (λ (b : Bool). if b then JustGot (merged own info) info else Halted) other

newer_progress : (own info : Info) → SUPPORTED < info.version → headway_by_version own info ≡ Halted
newer_progress own info more =
    let other : nat_eq info.version SUPPORTED ≡ false = grind (arith, nat_tests) in
    ap (λ (b : Bool). if b then JustGot (merged own info) info else Halted) other

-- an info was told
pub info_progress : (own : Info) (sort : Call → Bool) (info : Info) (result : Result Info StepErr)
    (a b : WorkNow)
    → (h : HasHeard (Get InfoFile) sort a b) → GivesInfo info h.reply → IsTakenInfo info result
    → headway_in own a ≡ Unread → GetsSo own result (headway_in own b)
info_progress own sort info (Ok same) a b h gives is unread =
    subst (λ (i : Info). headway_in own b ≡ JustGot (merged own i) i) (sym is.0)
    (got_progress own sort a b h unread
    ∙ (given_progress own info h.reply gives
    ∙ ap (λ (n : ℕ). if nat_eq n SUPPORTED then JustGot (merged own info) info else Halted) is.1))
info_progress own sort info (Err (Refused (TargetOlder version))) a b h gives is unread =
    halted_stops own (Refused (TargetOlder version)) (headway_in own b)
    (got_progress own sort a b h unread
    ∙ (given_progress own info h.reply gives
    ∙ older_progress own info (subst (λ (n : ℕ). n < SUPPORTED) is.0 is.1)))
info_progress own sort info (Err (Refused (TargetNewer version))) a b h gives is unread =
    halted_stops own (Refused (TargetNewer version)) (headway_in own b)
    (got_progress own sort a b h unread
    ∙ (given_progress own info h.reply gives
    ∙ newer_progress own info (subst (λ (n : ℕ). SUPPORTED < n) is.0 is.1)))
info_progress own sort info (Err e) a b h gives is unread = absurd is

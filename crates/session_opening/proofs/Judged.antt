-- The verdict on a target, by what the gets of an opening come to.
use Rattle.std.specs.Prelude.{ℕ, ◌≡◌, ◌⊎◌, ◌<◌, List, [], ◌∷◌, Bool, true, false, nat_eq, nat_lt, if◌then◌else◌, length, Option, Some, None, Result, Ok, Err, refl}
use Rattle.std.proofs.Common.{arith, ◌∙◌, sym, ap, subst, inl, inr, lt-ltb}
use Rattle.std.proofs.lemmas.Bool.Decides.{nat_tests}
use Rattle.conflicts.specs.declared.error.StepErr.{StepErr}
use Rattle.conflicts.specs.declared.error.StepErr.TheVariants.{NoMemory, Refused}
use Rattle.conflicts.specs.declared.refusal.Refusal.{Refusal}
use Rattle.conflicts.specs.declared.refusal.Refusal.TheVariants.{TargetOlder, TargetNewer, BadInfo}
use Rattle.jop_base.specs.declared.path.Path.TheVariants.{Info as InfoFile, OldVersion}
use Rattle.jop_target.specs.declared.call.Call.{Call}
use Rattle.jop_target.specs.declared.call.Call.TheVariants.{Get}
use Rattle.jop_target.specs.declared.reply.Reply.{Reply}
use Rattle.jop_target.specs.declared.reply.Reply.TheVariants.{Listed, Got, GotBlob, Absent, Done, Failed, TooLarge}
use Rattle.law_licences.proofs.Told.{calls-view_from, calls_from-append}
use Rattle.law_licences.specs.Deeds.{Deed, Begins, Asks, Makes, MakesUntold, Ends, Stops, events_of}
use Rattle.law_licences.specs.Licences.{AreWork}
use Rattle.law_licences.specs.Trails.{session_calls}
use Rattle.law_licences.specs.Views.{Heard, View, is_about_locks, view_after_call, view_after_change, view_from, with_call}
use Rattle.session.proofs.Behind.{behind}
use Rattle.session.specs.Asking.{IsAskedInVain}
use Rattle.session.specs.Doing.{Does, Went}
use Rattle.session.specs.Parts.{Hears}
use Rattle.session.specs.Sessions.{HasHeard}
use Rattle.session.specs.Work.{WorkNow, view_of}
use Rattle.session_opening.specs.Opening.{IsOldVersion, IsTakenInfo, TellsInfo}
use Rattle.session_opening.specs.Verdict.{Verdict, AwaitsInfo, AwaitsOldFile, GoesAhead, MustRefuse, Unanswered, EndsInOrder, EndsOldFile, HeedsVerdict, by_info, by_info_reply, by_old_reply, by_version, is_ordered, verdict_after, verdict_in, verdict_of}
use Rattle.sync_info.specs.Read.{info_in}
use Rattle.sync_info.specs.declared.info.Info.{Info}
use Rattle.target_upgrade.specs.Reading.{GivesBytes, GivesInfo, IsBadReply}
use Rattle.target_upgrade.specs.Steps.{SUPPORTED}

-- ---- what is owed

-- a session that may go on owes no refusal
pub ahead_in_order : (Given : Refusal → Type 0) (verdict : Verdict) → verdict ≡ GoesAhead
    → HeedsVerdict Given verdict
ahead_in_order Given verdict is = subst (HeedsVerdict Given) (sym is) (record {
  ordered = refl;
  given = λ why no. absurd cc;
})

pub begun_in_order : (Given : Refusal → Type 0) (verdict : Verdict) → verdict ≡ AwaitsInfo
    → HeedsVerdict Given verdict
begun_in_order Given verdict is = subst (HeedsVerdict Given) (sym is) (record {
  ordered = refl;
  given = λ why no. absurd cc;
})

halted_in_order : (Given : Refusal → Type 0) (verdict : Verdict) → verdict ≡ Unanswered
    → HeedsVerdict Given verdict
halted_in_order Given verdict is = subst (HeedsVerdict Given) (sym is) (record {
  ordered = refl;
  given = λ why no. absurd cc;
})

halfway_in_order : (Given : Refusal → Type 0) (verdict : Verdict) → verdict ≡ AwaitsOldFile
    → HeedsVerdict Given verdict
halfway_in_order Given verdict is = subst (HeedsVerdict Given) (sym is) (record {
  ordered = refl;
  given = λ why no. absurd cc;
})

-- a part that gave nothing, and so the refusal that is due, if one is
abbrev pub IsRefusedInOrder : StepErr → Verdict → Type 0
IsRefusedInOrder e verdict = HeedsVerdict (λ why. (e ≡ Refused why) ⊎ (e ≡ NoMemory)) verdict

refusal_is : (why other : Refusal) → MustRefuse why ≡ MustRefuse other → why ≡ other
refusal_is why other same = cc

-- the refusal that is due was given
refused_in_order : (why : Refusal) (verdict : Verdict) → verdict ≡ MustRefuse why
    → HeedsVerdict (λ other. (Refused why ≡ Refused other) ⊎ (Refused why ≡ NoMemory)) verdict
refused_in_order why verdict is =
    subst (HeedsVerdict (λ other. (Refused why ≡ Refused other) ⊎ (Refused why ≡ NoMemory))) (sym is)
    (record {
      ordered = refl;
      given = λ other same. inl (ap Refused (refusal_is why other same));
    })

-- ---- whatever a session does that may go on

ahead_called : (about : Bool) (h : Heard) (calls : List Heard) → verdict_of calls ≡ GoesAhead
    → verdict_of (if about then calls else h ∷ calls) ≡ GoesAhead
unfolding verdict_of
ahead_called true h calls is = is
ahead_called false h calls is = ap (λ (v : Verdict). verdict_after v h) is

ahead_seen : (v : View) (ds : List Deed) → AreWork ds → verdict_of v.calls ≡ GoesAhead
    → verdict_of (view_from v ds).calls ≡ GoesAhead
unfolding AreWork view_from
ahead_seen v [] work is = is
ahead_seen v (Asks call reply ∷ ds) work is =
    ahead_seen (view_after_call v call reply) ds work
    (ahead_called (is_about_locks call) (record { call = call; reply = reply }) v.calls is)
ahead_seen v (Makes change ∷ ds) work is = ahead_seen (view_after_change v change) ds work.1 is
ahead_seen v (Begins ∷ ds) work is = absurd work
ahead_seen v (MakesUntold ∷ ds) work is = absurd work
ahead_seen v (Ends ∷ ds) work is = absurd work
ahead_seen v (Stops ∷ ds) work is = absurd work

-- it may still go on
pub stays_ahead : (sort : Call → Bool) (a b : WorkNow) → Went sort a b
    → verdict_in a ≡ GoesAhead → verdict_in b ≡ GoesAhead
stays_ahead sort a b w is =
    let v = view_of None a.site in
    let n = length a.site.made in
    let calls : session_calls b.site.line.trail ≡ (view_from v w.deeds).calls =
    ap session_calls w.trail
    ∙ (calls_from-append [] a.site.line.trail (events_of n w.deeds)
    ∙ sym (calls-view_from n v w.deeds w.work)) in
    ap verdict_of calls ∙ ahead_seen v w.deeds w.work is

-- ---- a get

-- it is remembered
pub calls_got : (call : Call) (reply : Reply) (sort : Call → Bool) (a b : WorkNow)
    → Does (Hears call reply) sort a b
    → session_calls b.site.line.trail
    ≡ with_call call (Some reply) (session_calls a.site.line.trail)
unfolding view_from
calls_got call reply sort a b h =
    behind (λ t cs u us. us ≡ with_call call (Some reply) cs) (Hears call reply) sort a b
    (λ v ds is. ap (λ (x : List Deed). (view_from v x).calls) is) h

info_heard : (calls : List Heard) (reply : Option Reply) → verdict_of calls ≡ AwaitsInfo
    → verdict_of (with_call (Get InfoFile) reply calls) ≡ by_info_reply reply
unfolding verdict_of
info_heard calls reply is =
    ap (λ (v : Verdict). verdict_after v (record { call = Get InfoFile; reply = reply })) is

old_heard : (calls : List Heard) (reply : Option Reply) → verdict_of calls ≡ AwaitsOldFile
    → verdict_of (with_call (Get OldVersion) reply calls) ≡ by_old_reply reply
unfolding verdict_of
old_heard calls reply is =
    ap (λ (v : Verdict). verdict_after v (record { call = Get OldVersion; reply = reply })) is

info_judged : (sort : Call → Bool) (a b : WorkNow) → (h : HasHeard (Get InfoFile) sort a b)
    → verdict_in a ≡ AwaitsInfo → verdict_in b ≡ by_info_reply (Some h.reply)
info_judged sort a b h is =
    ap verdict_of (calls_got (Get InfoFile) h.reply sort a b h.does)
    ∙ info_heard (session_calls a.site.line.trail) (Some h.reply) is

old_judged : (sort : Call → Bool) (a b : WorkNow) → (h : HasHeard (Get OldVersion) sort a b)
    → verdict_in a ≡ AwaitsOldFile → verdict_in b ≡ by_old_reply (Some h.reply)
old_judged sort a b h is =
    ap verdict_of (calls_got (Get OldVersion) h.reply sort a b h.does)
    ∙ old_heard (session_calls a.site.line.trail) (Some h.reply) is

-- ---- the old version's file

version_judged : (version : ℕ) (reply : Reply) → IsOldVersion version reply
    → by_old_reply (Some reply) ≡ MustRefuse (TargetOlder version)
version_judged version (Got now content) is = ap (λ (n : ℕ). MustRefuse (TargetOlder n)) (sym is)
version_judged version (TooLarge len) is = ap (λ (n : ℕ). MustRefuse (TargetOlder n)) (sym is)
version_judged version (Absent now) is = ap (λ (n : ℕ). MustRefuse (TargetOlder n)) (sym is)
version_judged version (Listed listing) is = absurd is
version_judged version (GotBlob now len) is = absurd is
version_judged version (Done now) is = absurd is
version_judged version Failed is = absurd is

pub old_told : (sort : Call → Bool) (a b : WorkNow) (version : ℕ)
    → (h : HasHeard (Get OldVersion) sort a b) → IsOldVersion version h.reply
    → verdict_in a ≡ AwaitsOldFile → EndsOldFile (Ok version) (verdict_in b)
old_told sort a b version h tells is =
    old_judged sort a b h is ∙ version_judged version h.reply tells

pub old_untold : (a b : WorkNow) → IsAskedInVain (Get OldVersion) a.site b.site
    → verdict_in a ≡ AwaitsOldFile
    → (verdict_in b ≡ AwaitsOldFile) ⊎ (verdict_in b ≡ Unanswered)
old_untold a b vain is = elim vain [
  | inl same ↦ inl (ap verdict_of same ∙ is)
  | inr unheard ↦ inr (elim unheard [
    | inl none ↦ ap verdict_of none ∙ old_heard (session_calls a.site.line.trail) None is
    | inr failed ↦
        ap verdict_of failed ∙ old_heard (session_calls a.site.line.trail) (Some Failed) is
  ])
]

-- ---- the info

pub info_untold : (a b : WorkNow) (e : StepErr)
    → IsAskedInVain (Get InfoFile) a.site b.site → verdict_in a ≡ AwaitsInfo
    → IsRefusedInOrder e (verdict_in b)
info_untold a b e vain is =
    let Given = λ (why : Refusal). (e ≡ Refused why) ⊎ (e ≡ NoMemory) in
    elim vain [
      | inl same ↦ begun_in_order Given (verdict_in b) (ap verdict_of same ∙ is)
      | inr unheard ↦ halted_in_order Given (verdict_in b) (elim unheard [
        | inl none ↦ ap verdict_of none ∙ info_heard (session_calls a.site.line.trail) None is
        | inr failed ↦
            ap verdict_of failed ∙ info_heard (session_calls a.site.line.trail) (Some Failed) is
      ])
    ]

bad_judged : (reply : Reply) → IsBadReply reply → by_info_reply (Some reply) ≡ MustRefuse BadInfo
bad_judged (Got now content) bad = ap by_info bad
bad_judged (TooLarge len) bad = refl
bad_judged (Absent now) bad = absurd bad
bad_judged (Listed listing) bad = absurd bad
bad_judged (GotBlob now len) bad = absurd bad
bad_judged (Done now) bad = absurd bad
bad_judged Failed bad = absurd bad

given_judged : (info : Info) (reply : Reply) → GivesInfo info reply
    → by_info_reply (Some reply) ≡ by_version info.version
given_judged info (Got now content) gives = ap by_info gives
given_judged info (TooLarge len) gives = absurd gives
given_judged info (Absent now) gives = absurd gives
given_judged info (Listed listing) gives = absurd gives
given_judged info (GotBlob now len) gives = absurd gives
given_judged info (Done now) gives = absurd gives
given_judged info Failed gives = absurd gives

chosen_ordered : (less same : Bool) (version : ℕ)
    → is_ordered (if less then MustRefuse (TargetOlder version)
    else (if same then GoesAhead else MustRefuse (TargetNewer version))) ≡ true
chosen_ordered true same version = refl
chosen_ordered false true version = refl
chosen_ordered false false version = refl

info_ordered : (o : Option Info) → is_ordered (by_info o) ≡ true
info_ordered None = refl
info_ordered (Some info) =
    chosen_ordered (nat_lt info.version SUPPORTED) (nat_eq info.version SUPPORTED) info.version

bytes_ordered : (reply : Reply) → GivesBytes reply → is_ordered (by_info_reply (Some reply)) ≡ true
bytes_ordered (Got now content) gives = info_ordered (info_in content)
bytes_ordered (TooLarge len) gives = absurd gives
bytes_ordered (Absent now) gives = absurd gives
bytes_ordered (Listed listing) gives = absurd gives
bytes_ordered (GotBlob now len) gives = absurd gives
bytes_ordered (Done now) gives = absurd gives
bytes_ordered Failed gives = absurd gives

-- no info was told
pub none_told : (sort : Call → Bool) (a b : WorkNow) (answer : Reply) (e : StepErr)
    → (h : HasHeard (Get InfoFile) sort a b) → answer ≡ h.reply → TellsInfo answer (Err e)
    → verdict_in a ≡ AwaitsInfo → IsRefusedInOrder e (verdict_in b)
none_told sort a b answer (Refused BadInfo) h same tells is =
    refused_in_order BadInfo (verdict_in b)
    (info_judged sort a b h is ∙ bad_judged h.reply (subst IsBadReply same tells))
none_told sort a b answer NoMemory h same tells is = record {
  ordered =
      ap is_ordered (info_judged sort a b h is) ∙ bytes_ordered h.reply (subst GivesBytes same tells);
  given = λ why due. inr refl;
}
none_told sort a b answer e h same tells is = absurd tells

-- it isn't there, and the old version's file tells the version
pub absent_told : (sort : Call → Bool) (a b : WorkNow) (answer : Reply) (version : ℕ)
    (verdict : Verdict)
    → (h : HasHeard (Get InfoFile) sort a b) → answer ≡ h.reply → TellsInfo answer (Ok None)
    → (verdict_in b ≡ AwaitsOldFile → EndsOldFile (Ok version) verdict)
    → verdict_in a ≡ AwaitsInfo → IsRefusedInOrder (Refused (TargetOlder version)) verdict
absent_told sort a b answer version verdict h same tells old is =
    refused_in_order (TargetOlder version) verdict
    (old (info_judged sort a b h is
    ∙ ap (λ (r : Reply). by_info_reply (Some r)) (sym same ∙ tells.1)))

-- or had no answer
pub absent_untold : (sort : Call → Bool) (a b : WorkNow) (answer : Reply) (e : StepErr)
    (verdict : Verdict)
    → (h : HasHeard (Get InfoFile) sort a b) → answer ≡ h.reply → TellsInfo answer (Ok None)
    → (verdict_in b ≡ AwaitsOldFile → EndsOldFile (Err e) verdict)
    → verdict_in a ≡ AwaitsInfo → IsRefusedInOrder e verdict
absent_untold sort a b answer e verdict h same tells old is =
    let Given = λ (why : Refusal). (e ≡ Refused why) ⊎ (e ≡ NoMemory) in
    let asked = info_judged sort a b h is
    ∙ ap (λ (r : Reply). by_info_reply (Some r)) (sym same ∙ tells.1) in
    elim (old asked) [
      | inl still ↦ halfway_in_order Given verdict still
      | inr halted ↦ halted_in_order Given verdict halted
    ]

-- ---- its version

older_judged : (version : ℕ) → version < SUPPORTED
    → by_version version ≡ MustRefuse (TargetOlder version)
older_judged version less =
    ap (λ (b : Bool). if b then MustRefuse (TargetOlder version)
    else (if nat_eq version SUPPORTED then GoesAhead else MustRefuse (TargetNewer version)))
    (lt-ltb version SUPPORTED less)

newer_judged : (version : ℕ) → SUPPORTED < version
    → by_version version ≡ MustRefuse (TargetNewer version)
newer_judged version more =
    let not_less : nat_lt version SUPPORTED ≡ false = grind (arith, nat_tests) in
    let not_same : nat_eq version SUPPORTED ≡ false = grind (arith, nat_tests) in
    ap (λ (b : Bool). if b then MustRefuse (TargetOlder version)
    else (if nat_eq version SUPPORTED then GoesAhead else MustRefuse (TargetNewer version)))
    not_less
    ∙ ap (λ (b : Bool). if b then GoesAhead else MustRefuse (TargetNewer version)) not_same

supported_judged : (version : ℕ) → version ≡ SUPPORTED → by_version version ≡ GoesAhead
supported_judged version is = ap by_version is

-- an info was told
pub info_told : (sort : Call → Bool) (info : Info) (result : Result Info StepErr) (a b : WorkNow)
    → (h : HasHeard (Get InfoFile) sort a b) → GivesInfo info h.reply → IsTakenInfo info result
    → verdict_in a ≡ AwaitsInfo → EndsInOrder result (verdict_in b)
info_told sort info (Ok same) a b h gives is unread =
    info_judged sort a b h unread
    ∙ (given_judged info h.reply gives ∙ supported_judged info.version is.1)
info_told sort info (Err (Refused (TargetOlder version))) a b h gives is unread =
    refused_in_order (TargetOlder version) (verdict_in b)
    (info_judged sort a b h unread
    ∙ (given_judged info h.reply gives
    ∙ (ap by_version (sym is.0) ∙ older_judged version is.1)))
info_told sort info (Err (Refused (TargetNewer version))) a b h gives is unread =
    refused_in_order (TargetNewer version) (verdict_in b)
    (info_judged sort a b h unread
    ∙ (given_judged info h.reply gives
    ∙ (ap by_version (sym is.0) ∙ newer_judged version is.1)))
info_told sort info (Err e) a b h gives is unread = absurd is

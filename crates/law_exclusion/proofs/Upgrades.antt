-- An upgrade of one client, step by step of all clients.
use Rattle.std.proofs.Common.{◌≡◌, ◌∙◌, refl, sym, ap, subst, ℕ, List, [], ◌∷◌, ◌++◌, Bool, true, false, cond, bytes_eq}
use Rattle.std.proofs.lemmas.Bool.{false≢true}
use Rattle.jop_target.specs.declared.event.Event.{Event}
use Rattle.jop_target.specs.declared.event.Event.TheVariants.{Began, Sent, Called, Made, Ended}
use Rattle.jop_target.specs.declared.tree.Tree.{Tree}
use Rattle.jop_target.specs.History.{History, Step, Happening, Begins, Answered, Unheard, Changed, Ends, Stopped, IsHonest, IsHonestFrom, IsHonestReply, landed_call, tree_with, tree_from, noted, part_of}
use Rattle.lease.specs.Discipline.{lawful_from}
use Rattle.target_upgrade.specs.Course.{Course, begun_course, course_after, course_from, allowed_from, ObeysLease}
use Rattle.law_exclusion.specs.Runs.{OthersAside, is_upgrade_from, begins_none, HasSession, IsRedone, EndsOnce, LeavesUpgraded, IsAsUpgraded}
use Rattle.target_upgrade.specs.Steps.{UpgradeStage, Upgraded}
use Rattle.law_exclusion.specs.Target.{upgraded, IsAlike}
use Rattle.law_exclusion.proofs.Alike.{alike_ended}
use Rattle.law_exclusion.proofs.InTune.{ComesToSame, same_tree, same_on, IsInTune}
use Rattle.law_exclusion.proofs.OneKind.{upgrade_done}
use Rattle.law_exclusion.proofs.Aside.{like_landed, same_like, tuned_like}
use Rattle.law_exclusion.proofs.Walked.{Fits, HasWalked, own_called, own_sent, Obeys, obeys_next, may_called, may_sent}

-- ---- steps of all clients

walked_on : (d : Course) (t u v : Tree) → ComesToSame t u → HasWalked d u v → HasWalked d t v
walked_on d t u v h k = record { fits = k.fits; same = same_on t u v h k.same }

-- the steps that follow lead from each course that fits
abbrev WalksOn : List ℕ → ℕ → List Step → Type 0
WalksOn client now ss = (c : Course) (t : Tree) → IsHonestFrom t now ss → OthersAside client ss →
    Obeys client c (part_of client ss) → Fits c t → HasWalked
    (course_from client c (part_of client ss)) t (tree_from t ss)

own_event : (client : List ℕ) (m : ℕ) (x : Happening) (ss : List Step) → WalksOn client m ss →
    (c : Course) (t : Tree) → IsHonestReply t m x → IsHonestFrom (tree_with t m (landed_call x)) m
    ss → OthersAside client ss → Obeys client c (noted x ++ part_of client ss) → Fits c t →
    HasWalked (course_from client c (noted x ++ part_of client ss)) t
    (tree_from (tree_with t m (landed_call x)) ss)
unfolding course_from
own_event client m Begins ss walk c t honest rest aside obeys fits = absurd
    (false≢true (sym (obeys_next client c Began (part_of client ss) obeys).begun))
own_event client m (Answered call reply landed) ss walk c t honest rest aside obeys fits =
    let n = obeys_next client c (Called call reply) (part_of client ss) obeys in
    let step = own_called client c t m call reply landed honest
    (may_called client c call reply (part_of client ss) n.rest) n.never fits in
    walked_on _ t (tree_with t m (landed_call (Answered call reply landed))) _ step.same
    (walk (course_after client c (Called call reply)) (tree_with t m
    (landed_call (Answered call reply landed))) rest aside n.rest step.fits)
own_event client m (Unheard call landed) ss walk c t honest rest aside obeys fits =
    let n = obeys_next client c (Sent call) (part_of client ss) obeys in
    let step = own_sent client c t m call landed (may_sent client c call (part_of client ss) n.rest)
    n.never fits in
    walked_on _ t (tree_with t m (landed_call (Unheard call landed))) _ step.same
    (walk (course_after client c (Sent call)) (tree_with t m
    (landed_call (Unheard call landed))) rest aside n.rest step.fits)
own_event client m (Changed number) ss walk c t honest rest aside obeys fits = walk c t rest aside
    (obeys_next client c (Made number) (part_of client ss) obeys).rest fits
own_event client m Ends ss walk c t honest rest aside obeys fits = walk
    (course_after client c Ended) t rest aside (obeys_next client c Ended (part_of client ss)
    obeys).rest fits
own_event client m Stopped ss walk c t honest rest aside obeys fits = walk c t rest aside obeys fits

walk : (client : List ℕ) (now : ℕ) (ss : List Step) → WalksOn client now ss
unfolding tree_from course_from
walk client now [] c t honest aside obeys fits = record { fits = fits; same = same_tree t }
walk client now (s ∷ ss) c t honest aside obeys fits = go (bytes_eq s.client client) refl
    (walk client s.moment ss) obeys where
      go : (b : Bool) → bytes_eq s.client client ≡ b → WalksOn client s.moment ss → Obeys client c
          (cond b (noted s.happens ++ part_of client ss) (part_of client ss)) → HasWalked
          (course_from client c (cond b (noted s.happens ++ part_of client ss) (part_of client ss))) t
          (tree_from (tree_with t s.moment (landed_call s.happens)) ss)
      go true own later obeys = own_event client s.moment s.happens ss later c t honest.1 honest.2
          aside.1 obeys fits
      go false other later obeys =
          let like = like_landed t s.moment (landed_call s.happens) (aside.0 other) in
          let u = tree_with t s.moment (landed_call s.happens) in
          walked_on _ t u _ (same_like t u like) (later c u honest.2 aside.1 obeys
          (tuned_like t u like c.stage fits))

-- ---- an upgrade, and the one that is run again

tree_from-append : (t : Tree) (xs ys : List Step) → tree_from t (xs ++ ys) ≡ tree_from
    (tree_from t xs) ys
unfolding tree_from
tree_from-append t [] ys = refl
tree_from-append t (x ∷ xs) ys = tree_from-append (tree_with t x.moment (landed_call x.happens)) xs
    ys

-- a part of an honest history is honest
record IsCutHonest (t : Tree) (now : ℕ) (xs ys : List Step) : Type 0 where
  first : IsHonestFrom t now xs
  later : ℕ
  rest : IsHonestFrom (tree_from t xs) later ys

cut_honest : (t : Tree) (now : ℕ) (xs ys : List Step) → IsHonestFrom t now (xs ++ ys) → IsCutHonest
    t now xs ys
unfolding tree_from
cut_honest t now [] ys h = record { first = tt; later = now; rest = h }
cut_honest t now (x ∷ xs) ys h =
    let cut = cut_honest (tree_with t x.moment (landed_call x.happens)) x.moment xs ys h.2 in
    record { first = (h.0, h.1, cut.first); later = cut.later; rest = cut.rest }

obeys_begun : (client : List ℕ) (events : List Event) → ObeysLease client (Began ∷ events) →
    is_upgrade_from client begun_course events ≡ true → Obeys client begun_course events
unfolding allowed_from lawful_from
obeys_begun client events h upgrade =
    record { work = h.work; locks = h.locks.keeps; upgrade = upgrade }

-- steps lead from each tree as the session of one client does that begins with one of them
abbrev BeginsOn : List ℕ → ℕ → List Step → List Event → Type 0
BeginsOn client now ss events =
    part_of client ss ≡ Began ∷ events → (t : Tree) → IsHonestFrom t now ss →
    OthersAside client ss → Obeys client begun_course events →
    HasWalked (course_from client begun_course events) t (tree_from t ss)

own_begin : (client : List ℕ) (m : ℕ) (x : Happening) (ss : List Step) (events : List Event) →
    BeginsOn client m ss events → noted x ++ part_of client ss ≡ Began ∷ events → (t : Tree) →
    IsHonestFrom (tree_with t m (landed_call x)) m ss → OthersAside client ss →
    Obeys client begun_course events →
    HasWalked (course_from client begun_course events) t
    (tree_from (tree_with t m (landed_call x)) ss)
own_begin client m Begins ss events later part t honest aside obeys =
    let same : part_of client ss ≡ events = cc in
    subst (λ (es : List Event). HasWalked (course_from client begun_course es) t (tree_from t ss))
    same
    (walk client m ss begun_course t honest aside
    (subst (λ (es : List Event). Obeys client begun_course es) (sym same) obeys) tt)
own_begin client m Stopped ss events later part t honest aside obeys =
    later part t honest aside obeys
own_begin client m (Answered call reply landed) ss events later part t honest aside obeys = cc
own_begin client m (Unheard call landed) ss events later part t honest aside obeys = cc
own_begin client m (Changed number) ss events later part t honest aside obeys = cc
own_begin client m Ends ss events later part t honest aside obeys = cc

begins_walk : (client : List ℕ) (now : ℕ) (ss : List Step) (events : List Event) →
    BeginsOn client now ss events
unfolding tree_from
begins_walk client now [] events part t honest aside obeys = cc
begins_walk client now (s ∷ ss) events part t honest aside obeys =
    go (bytes_eq s.client client) refl (begins_walk client s.moment ss events) part where
      u : Tree
      u = tree_with t s.moment (landed_call s.happens)

      go : (b : Bool) → bytes_eq s.client client ≡ b → BeginsOn client s.moment ss events →
          cond b (noted s.happens ++ part_of client ss) (part_of client ss) ≡ Began ∷ events →
          HasWalked (course_from client begun_course events) t (tree_from u ss)
      go true own later part =
          own_begin client s.moment s.happens ss events later part t honest.2 aside.1 obeys
      go false other later part =
          let like = like_landed t s.moment (landed_call s.happens) (aside.0 other) in
          walked_on _ t u _ (same_like t u like) (later part u honest.2 aside.1 obeys)

session_walks : (client : List ℕ) (ss : List Step) (events : List Event) (t : Tree) (now : ℕ) →
    IsHonestFrom t now ss → HasSession client ss events →
    is_upgrade_from client begun_course events ≡ true →
    HasWalked (course_from client begun_course events) t (tree_from t ss)
session_walks client ss events t now honest s upgrade =
    begins_walk client now ss events s.part t honest s.aside
    (obeys_begun client events s.obeys upgrade)

-- the upgrade that is done ends it
ends_upgraded : (client : List ℕ) (ss : List Step) (events : List Event) (o t : Tree) (now : ℕ) →
    IsHonestFrom t now ss → HasSession client ss events → begins_none events ≡ true →
    (course_from client begun_course events).stage ≡ Upgraded → ComesToSame o t →
    IsAlike (tree_from t ss) (upgraded o)
ends_upgraded client ss events o t now honest s one done same =
    let walked = session_walks client ss events t now honest s
    (upgrade_done client events one done) in
    let v = tree_from t ss in
    let end : IsInTune Upgraded v = subst (λ (g : UpgradeStage). IsInTune g v) done walked.fits in
    alike_ended o v end.0 end.1 end.2 (same_on o t v same walked.same)

-- ---- the laws

-- behind some steps
record IsBehind (h : History) (before run : List Step) : Type 0 where
  now : ℕ
  honest : IsHonestFrom (tree_from h.opening before) now run
  whole : tree_from h.opening h.steps ≡ tree_from (tree_from h.opening before) run

behind : (h : History) (before run : List Step) → IsHonest h → h.steps ≡ before ++ run →
    IsBehind h before run
behind h before run honest steps =
    let all : IsHonestFrom h.opening 0 (before ++ run) =
    subst (λ (ss : List Step). IsHonestFrom h.opening 0 ss) steps honest.steps in
    let cut = cut_honest h.opening 0 before run all in
    record {
      now = cut.later;
      honest = cut.rest;
      whole = ap (tree_from h.opening) steps ∙ tree_from-append h.opening before run;
    }

twice_run : (h : History) (before first second : List Step) (one two : List ℕ)
    (events more : List Event) → IsHonest h → h.steps ≡ before ++ (first ++ second) →
    HasSession one first events → is_upgrade_from one begun_course events ≡ true →
    HasSession two second more → begins_none more ≡ true →
    (course_from two begun_course more).stage ≡ Upgraded → IsAsUpgraded h before
twice_run h before first second one two events more honest steps s upgrade z none done =
    let b = behind h before (first ++ second) honest steps in
    let o = tree_from h.opening before in
    let cut = cut_honest o b.now first second b.honest in
    let walked = session_walks one first events o b.now cut.first s upgrade in
    let t = tree_from o first in
    let end = ends_upgraded two second more o t cut.later cut.rest z none done walked.same in
    subst (λ (v : Tree). IsAlike v (upgraded o))
    (sym (b.whole ∙ tree_from-append o first second)) end

pub redone : (h : History) → IsHonest h → (r : IsRedone h) → IsAsUpgraded h r.before
redone h honest r =
    twice_run h r.before r.first r.second r.one r.two r.stopped.events r.done.events honest r.steps
    r.stopped.session r.stopped.upgrade r.done.session r.done.one r.done.done

once_run : (h : History) (client : List ℕ) (events : List Event) → IsHonest h →
    ObeysLease client (Began ∷ events) → begins_none events ≡ true →
    (course_from client begun_course events).stage ≡ Upgraded →
    (e : EndsOnce h client (Began ∷ events)) → IsAsUpgraded h e.before
once_run h client events honest obeys none done e =
    let b = behind h e.before e.run honest e.steps in
    let o = tree_from h.opening e.before in
    let session : HasSession client e.run events =
    record { part = e.part; obeys = obeys; aside = e.aside } in
    let end = ends_upgraded client e.run events o o b.now b.honest session none done
    (same_tree o) in
    subst (λ (v : Tree). IsAlike v (upgraded o)) (sym b.whole) end

pub joined : (client : List ℕ) (events : List Event) → ObeysLease client (Began ∷ events) →
    begins_none events ≡ true → (course_from client begun_course events).stage ≡ Upgraded →
    LeavesUpgraded client (Began ∷ events)
joined client events obeys none done = record {
  once = λ h honest e. once_run h client events honest obeys none done e;
  again = λ h honest e.
      twice_run h e.before e.first e.second e.one client e.stopped.events events honest e.steps
      e.stopped.session e.stopped.upgrade
      (record { part = e.part; obeys = obeys; aside = e.aside }) none done;
}

-- What a session has read of the version, event by event: when nothing is read, and that nothing is
-- forgotten.
use Rattle.std.proofs.Common.{◌≡◌, ◌≢◌, refl, ap, subst, arith, ℕ, suc, List, [], ◌∷◌, ◌++◌, Bool, true, false, ◌||◌, nat_eq, Option, Some, None}
use Rattle.std.specs.Prelude.{All}
use Rattle.std.proofs.lemmas.Bool.{eqb-true, or_right}
use Rattle.jop_base.specs.declared.path.Path.TheVariants.{Info as InfoFile, OldVersion}
use Rattle.jop_target.specs.declared.call.Call.{Call}
use Rattle.jop_target.specs.declared.call.Call.TheVariants.{Get}
use Rattle.jop_target.specs.declared.event.Event.{Event}
use Rattle.jop_target.specs.declared.reply.Reply.{Reply}
use Rattle.jop_target.specs.declared.reply.Reply.TheVariants.{Got, Absent, TooLarge}
use Rattle.lease.specs.Phase.{Phase, Plain, role_of, allows}
use Rattle.lease.proofs.Law.{plain_lease}
use Rattle.lease.proofs.Moves.{kind_held}
use Rattle.sync_info.specs.Read.{info_in}
use Rattle.sync_info.specs.declared.info.Info.{Info}
use Rattle.law_exclusion.specs.Learnt.{Learnt, with_info, learnt_of_info, learnt_of_old, learnt_by, learnt_after, learnt_from}

-- ---- the fold

pub learnt_from-append : (l : Learnt) (es fs : List Event) →
    learnt_from l (es ++ fs) ≡ learnt_from (learnt_from l es) fs
unfolding learnt_from
learnt_from-append l [] fs = refl
learnt_from-append l (e ∷ es) fs = learnt_from-append (learnt_after l e) es fs

-- ---- when nothing is read

-- who has no lease gets nothing
leaseless : {P : Type 0} (client : List ℕ) (p : Phase) → allows client p Plain ≡ true →
    kind_held p ≡ None → P
leaseless client p a none =
    let held = ap kind_held (plain_lease client p a).held in
    cc

pub leaseless_learns : (client : List ℕ) (p : Phase) (l : Learnt) (call : Call) (reply : Reply) →
    allows client p (role_of client call) ≡ true → kind_held p ≡ None → learnt_by l call reply ≡ l
leaseless_learns client p l (Get InfoFile) reply a none = leaseless client p a none
leaseless_learns client p l (Get OldVersion) reply a none = leaseless client p a none
leaseless_learns client p l call reply a none = refl

-- ---- what is read is never forgotten in a session

abbrev pub has_version : ℕ → List ℕ → Bool
has_version version [] = false
has_version version (v ∷ vs) = nat_eq v version || has_version version vs

pub of_version : (P : ℕ → Type 0) (version : ℕ) (vs : List ℕ) → All P vs →
    has_version version vs ≡ true → P version
of_version P version [] all h = cc
of_version P version (v ∷ vs) all h =
    go (nat_eq v version) refl
    (λ later. of_version P version vs (λ k d lt. all (suc k) d (omega arith)) later)
  where
    go : (b : Bool) → nat_eq v version ≡ b → (has_version version vs ≡ true → P version) →
        P version
    go true is on = subst P (eqb-true v version is) (all 0 v (omega arith))
    go false is on = on (rw is at h)

-- what holds of a list, and of each that is longer
pub record Grows (l m : Learnt) : Type 0 where
  pub version : (v : ℕ) → has_version v l.versions ≡ true → has_version v m.versions ≡ true
  pub read : l.versions ≢ [] → m.versions ≢ []
  pub none : l.no_info ≡ true → m.no_info ≡ true

grows_same : (l : Learnt) → Grows l l
grows_same l = record { version = λ v h. h; read = λ h. h; none = λ h. h }

pub not_empty : (v : ℕ) (vs : List ℕ) → v ∷ vs ≢ []
not_empty v vs h = cc

grows_by : (l : Learnt) (v : ℕ) → Grows l (record { no_info = l.no_info; versions = v ∷ l.versions })
grows_by l v = record {
  version = λ w h. or_right (nat_eq v w) (has_version w l.versions) h;
  read = λ h. not_empty v l.versions;
  none = λ h. h;
}

grows_with : (l : Learnt) (o : Option Info) →
    Grows l (record { no_info = l.no_info; versions = with_info o l.versions })
grows_with l None = grows_same l
grows_with l (Some info) = grows_by l info.version

grows_info : (l : Learnt) (reply : Reply) → Grows l (learnt_of_info l reply)
grows_info l (Got now content) = grows_with l (info_in content)
grows_info l (Absent now) = record { version = λ v h. h; read = λ h. h; none = λ h. refl }
grows_info l reply = grows_same l

grows_old_if : (b : Bool) (versions : List ℕ) (reply : Reply) →
    Grows (record { no_info = b; versions = versions })
    (learnt_of_old (record { no_info = b; versions = versions }) reply)
grows_old_if false versions reply = grows_same (record { no_info = false; versions = versions })
grows_old_if true versions (Got now content) =
    grows_by (record { no_info = true; versions = versions }) 1
grows_old_if true versions (TooLarge len) =
    grows_by (record { no_info = true; versions = versions }) 1
grows_old_if true versions (Absent now) =
    grows_by (record { no_info = true; versions = versions }) 0
grows_old_if true versions reply = grows_same (record { no_info = true; versions = versions })

pub grows : (l : Learnt) (call : Call) (reply : Reply) → Grows l (learnt_by l call reply)
grows l (Get InfoFile) reply = grows_info l reply
grows l (Get OldVersion) reply = grows_old_if l.no_info l.versions reply
grows l call reply = grows_same l

-- The last place of what is left: nothing stands there any more, or a call without its reply.
use Rattle.std.proofs.Common.{◌≡◌, ◌∙◌, refl, sym, subst, inl, inr, ℕ, List, [], ◌∷◌, ◌++◌, Bool, true, false}
use Rattle.std.proofs.lemmas.Bool.{and_from, and_parts, false≢true}
use Rattle.std.proofs.lemmas.List.{append-nil, take-append-drop}
use Rattle.std.specs.Prelude.{take, drop, Some, None}
use Rattle.jop_target.specs.declared.call.Call.{Call}
use Rattle.jop_target.specs.declared.event.Event.{Event}
use Rattle.jop_target.specs.declared.event.Event.TheVariants.{Began, Sent, Called, Made, Ended}
use Rattle.jop_target.specs.declared.reply.Reply.{Reply}
use Rattle.law_licences.specs.Deeds.{Deed, Asks, deeds_of}
use Rattle.law_licences.specs.Licences.{Each, MayDo, MayDoBySome, MayMerge}
use Rattle.law_licences.specs.Views.{View}
use Rattle.law_stops.specs.Cuts.{IsCut, IsCutWith}
use Rattle.law_stops.proofs.Cutting.{AllowedIf, LawfulIf, LicensedIf, allowed-behind, lawful-behind, licensed-behind, made_by}
use Rattle.lease.proofs.World.{lawful_so_far}
use Rattle.lease.specs.Discipline.{KeepsLocks, Session, keeps_lock_order, lawful_from, outside, renews_in_time, session_after}
use Rattle.lease.specs.Phase.{Phase, allows, phase_after, phase_unheard, role_of}
use Rattle.local_store.specs.Tale.{made_in}
use Rattle.local_store.specs.declared.change.Change.{Change}
use Rattle.target_upgrade.specs.Course.{Course, KeepsVersions, allowed_from, begun_course, course_after, is_allowed, outside_course}

-- ---- the lock discipline

-- a phase allowed the call if it isn't broken behind the reply
order-unheard : (client : List ℕ) (phase : Phase) (call : Call) (reply : Reply)
    → keeps_lock_order (phase_after client phase call reply) ≡ true
    → keeps_lock_order (phase_unheard client phase call) ≡ true
order-unheard client phase call reply h = by (allows client phase (role_of client call)) refl
  where
    by : (b : Bool) → allows client phase (role_of client call) ≡ b →
        keeps_lock_order (phase_unheard client phase call) ≡ true
    by true e = rw e refl
    by false e =
        let broken : keeps_lock_order (phase_after client phase call reply) ≡ false = rw e refl in
        absurd (false≢true (sym broken ∙ h))

lawful-unheard : (client : List ℕ) (s : Session) (call : Call) (reply : Reply)
    → (session_after client s (Called call reply)).lawful ≡ true
    → (session_after client s (Sent call)).lawful ≡ true
lawful-unheard client s call reply h =
    let a = and_parts s.lawful _ h in
    let b = and_parts s.running _ a.1 in
    let c = and_parts (renews_in_time s.phase s.now (role_of client call)) _ b.1 in
    and_from s.lawful _ a.0 (and_from s.running _ b.0
    (and_from (renews_in_time s.phase s.now (role_of client call)) _ c.0
    (order-unheard client s.phase call reply c.1)))

lawful-nothing : (client : List ℕ) (fs : List Event) → LawfulIf client fs []
unfolding lawful_from
lawful-nothing client fs s h = lawful_so_far client s fs h

lawful-call : (client : List ℕ) (call : Call) (reply : Reply) (fs : List Event)
    → LawfulIf client (Called call reply ∷ fs) (Sent call ∷ [])
unfolding lawful_from
lawful-call client call reply fs s h =
    lawful-unheard client s call reply
    (lawful_so_far client (session_after client s (Called call reply)) fs h)

-- ---- what is done under a lease

-- what wasn't allowed stays so
allowed_so_far : (client : List ℕ) (c : Course) (es : List Event)
    → allowed_from client c es ≡ true → c.lawful ≡ true
unfolding allowed_from
allowed_so_far client c [] h = h
allowed_so_far client c (Began ∷ es) h =
    (and_parts c.lawful (allowed_from client begun_course es) h).0
allowed_so_far client c (Sent call ∷ es) h =
    (and_parts c.lawful (is_allowed client c call)
    (allowed_so_far client (course_after client c (Sent call)) es h)).0
allowed_so_far client c (Called call reply ∷ es) h =
    (and_parts c.lawful (is_allowed client c call)
    (allowed_so_far client (course_after client c (Called call reply)) es h)).0
allowed_so_far client c (Made number ∷ es) h = allowed_so_far client c es h
allowed_so_far client c (Ended ∷ es) h =
    allowed_so_far client (course_after client c Ended) es h

allowed-nothing : (client : List ℕ) (fs : List Event) → AllowedIf client fs []
unfolding allowed_from
allowed-nothing client fs c h = allowed_so_far client c fs h

-- what is allowed goes by the call, not by its reply
allowed-call : (client : List ℕ) (call : Call) (reply : Reply) (fs : List Event)
    → AllowedIf client (Called call reply ∷ fs) (Sent call ∷ [])
unfolding allowed_from
allowed-call client call reply fs c h =
    allowed_so_far client (course_after client c (Called call reply)) fs h

-- ---- licences

-- what asks nothing of a reply
abbrev pub IsDeaf : (View → Deed → Type 0) → Type 0
IsDeaf P =
    (v : View) (call : Call) (reply : Reply) → P v (Asks call (Some reply)) → P v (Asks call None)

licensed-nothing : (P : View → Deed → Type 0) (fs : List Event) → LicensedIf P fs []
unfolding deeds_of made_in Each
licensed-nothing P fs v cs h = tt

licensed-call : (P : View → Deed → Type 0) → IsDeaf P
    → (call : Call) (reply : Reply) (fs : List Event)
    → LicensedIf P (Called call reply ∷ fs) (Sent call ∷ [])
unfolding deeds_of made_in Each
licensed-call P deaf call reply fs v cs h = (deaf v call reply h.0, tt)

-- ---- what is left

-- A sentence of trails is one of what is left of them, if it is so with nothing at the last place and with a call
-- without its reply.
pub record IsCuttable (S : List Event → Type 0) : Type 0 where
  pub first : (es fs : List Event) → S (es ++ fs) → S es
  pub amid : (es fs : List Event) (call : Call) (reply : Reply) →
      S (es ++ Called call reply ∷ fs) → S (es ++ Sent call ∷ [])

cut-by : (S : List Event → Type 0) → IsCuttable S → (trail cut : List Event) → IsCut trail cut
    → S trail → S cut
cut-by S cuts trail cut (n, left) h = elim left [
  | inl first ↦ subst S (sym first)
      (cuts.first (take n trail) (drop n trail) (subst S (sym (take-append-drop n trail)) h))
  | inr amid ↦ subst S (sym amid.left)
      (cuts.amid (take n trail) amid.rest amid.call amid.reply
      (subst (λ (rest : List Event). S (take n trail ++ rest)) amid.next
      (subst S (sym (take-append-drop n trail)) h)))
]

pub locks-cut : (client : List ℕ) (trail cut : List Event) → IsCut trail cut
    → KeepsLocks client trail → KeepsLocks client cut
locks-cut client = cut-by (KeepsLocks client) (record {
  first = λ es fs h. subst (KeepsLocks client) (append-nil es)
      (lawful-behind client es fs [] (lawful-nothing client fs) outside h);
  amid = λ es fs call reply h.
      lawful-behind client es (Called call reply ∷ fs) (Sent call ∷ [])
      (lawful-call client call reply fs) outside h;
})

pub versions-cut : (client : List ℕ) (trail cut : List Event) → IsCut trail cut
    → KeepsVersions client trail → KeepsVersions client cut
versions-cut client = cut-by (KeepsVersions client) (record {
  first = λ es fs h. subst (KeepsVersions client) (append-nil es)
      (allowed-behind client es fs [] (allowed-nothing client fs) outside_course h);
  amid = λ es fs call reply h.
      allowed-behind client es (Called call reply ∷ fs) (Sent call ∷ [])
      (allowed-call client call reply fs) outside_course h;
})

-- the deeds of a trail have their licences, with those changes that it has numbers for
abbrev LicensedAt : (View → Deed → Type 0) → View → List Change → List Event → Type 0
LicensedAt P v cs es = Each P v (deeds_of es (made_by es cs))

-- nothing and a call at the last place, behind a trail whose deeds are told with all changes
licensed-left : (P : View → Deed → Type 0) → IsDeaf P → (v : View) (cs : List Change)
    (trail cut : List Event) → IsCut trail cut → Each P v (deeds_of trail cs)
    → LicensedAt P v cs cut
licensed-left P deaf v cs trail cut (n, left) h =
    let whole : Each P v (deeds_of (take n trail ++ drop n trail) cs) =
    subst (λ (es : List Event). Each P v (deeds_of es cs)) (sym (take-append-drop n trail)) h in
    elim left [
      | inl first ↦ subst (LicensedAt P v cs) (append-nil (take n trail) ∙ sym first)
          (licensed-behind P (take n trail) (drop n trail) []
          (licensed-nothing P (drop n trail)) v cs whole)
      | inr amid ↦ subst (LicensedAt P v cs) (sym amid.left)
          (licensed-behind P (take n trail) (Called amid.call amid.reply ∷ amid.rest)
          (Sent amid.call ∷ []) (licensed-call P deaf amid.call amid.reply amid.rest) v cs
          (subst (λ (es : List Event). Each P v (deeds_of (take n trail ++ es) cs)) amid.next whole))
    ]

licensed-cut : (P : View → Deed → Type 0) → IsDeaf P → (v : View) (trail cut : List Event)
    (made kept : List Change) → IsCutWith trail made cut kept
    → Each P v (deeds_of trail made) → Each P v (deeds_of cut kept)
licensed-cut P deaf v trail cut made kept (cuts, changes) h =
    subst (λ (cs : List Change). Each P v (deeds_of cut cs)) (sym changes)
    (licensed-left P deaf v made trail cut cuts h)

pub data-cut : (v : View) (trail cut : List Event) (made kept : List Change)
    → IsCutWith trail made cut kept → Each MayDo v (deeds_of trail made)
    → Each MayDo v (deeds_of cut kept)
data-cut = licensed-cut MayDo (λ v call reply h. h)

pub some-cut : (v : View) (trail cut : List Event) (made kept : List Change)
    → IsCutWith trail made cut kept → Each MayDoBySome v (deeds_of trail made)
    → Each MayDoBySome v (deeds_of cut kept)
some-cut = licensed-cut MayDoBySome (λ v call reply h. h)

pub merging-cut : (v : View) (trail cut : List Event) (made kept : List Change)
    → IsCutWith trail made cut kept → Each MayMerge v (deeds_of trail made)
    → Each MayMerge v (deeds_of cut kept)
merging-cut = licensed-cut MayMerge (λ v call reply h. h)

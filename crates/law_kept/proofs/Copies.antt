-- Conflict notes more or less.
use Rattle.std.proofs.Common.{◌≡◌, ◌∙◌, refl, ap, sym, cond, ℕ, List, [], ◌∷◌, ◌++◌, Bool, true, false}
use Rattle.std.specs.Prelude.{bytes_eq, nat_eq, not, filter, ◌==◌}
use Rattle.local_store.specs.declared.conflict_note.ConflictNote.{ConflictNote}
use Rattle.law_kept.specs.Standing.{Copy, without_number}
use Rattle.law_kept.specs.Holding.{copy_of, copies_onto, copies_of}

copies_with : (id : List ℕ) (copies : List Copy) (ns : List ConflictNote) (n : ConflictNote)
    → copies_onto id copies (ns ++ n ∷ [])
    ≡ cond (bytes_eq n.note id) (copy_of n ∷ copies_onto id copies ns) (copies_onto id copies ns)
unfolding copies_onto
copies_with id copies [] n = refl
copies_with id copies (m ∷ ns) n =
    copies_with id (cond (bytes_eq m.note id) (copy_of m ∷ copies) copies) ns n

pub copies_more : (id : List ℕ) (ns : List ConflictNote) (n : ConflictNote)
    → bytes_eq n.note id ≡ true → copies_of id (ns ++ n ∷ []) ≡ copy_of n ∷ copies_of id ns
copies_more id ns n is =
    copies_with id [] ns n
    ∙ ap (λ (b : Bool). cond b (copy_of n ∷ copies_of id ns) (copies_of id ns)) is

pub copies_beside : (id : List ℕ) (ns : List ConflictNote) (n : ConflictNote)
    → bytes_eq n.note id ≡ false → copies_of id (ns ++ n ∷ []) ≡ copies_of id ns
copies_beside id ns n isnt =
    copies_with id [] ns n
    ∙ ap (λ (b : Bool). cond b (copy_of n ∷ copies_of id ns) (copies_of id ns)) isnt

-- a note of the number goes on both sides, and any other one stays
without_if : (id : List ℕ) (number : ℕ) (copies : List Copy) (n : ConflictNote)
    (ns : List ConflictNote) (its same : Bool)
    → ((more : List Copy) → without_number number (copies_onto id more ns)
    ≡ copies_onto id (without_number number more) (filter (λ m. not (nat_eq m.number number)) ns))
    → bytes_eq n.note id ≡ its → (n.number == number) ≡ same
    → without_number number (copies_onto id (cond its (copy_of n ∷ copies) copies) ns)
    ≡ copies_onto id (without_number number copies)
    (cond (not same) (n ∷ filter (λ m. not (nat_eq m.number number)) ns)
    (filter (λ m. not (nat_eq m.number number)) ns))
unfolding copies_onto without_number
without_if id number copies n ns true true later is equal =
    later (copy_of n ∷ copies)
    ∙ ap
    (λ (b : Bool). copies_onto id
    (cond b (without_number number copies) (copy_of n ∷ without_number number copies))
    (filter (λ m. not (nat_eq m.number number)) ns)) equal
without_if id number copies n ns false true later isnt equal = later copies
without_if id number copies n ns true false later is differ =
    later (copy_of n ∷ copies)
    ∙ (ap
    (λ (b : Bool). copies_onto id
    (cond b (without_number number copies) (copy_of n ∷ without_number number copies))
    (filter (λ m. not (nat_eq m.number number)) ns)) differ
    ∙ sym (ap
    (λ (b : Bool). copies_onto id
    (cond b (copy_of n ∷ without_number number copies) (without_number number copies))
    (filter (λ m. not (nat_eq m.number number)) ns)) is))
without_if id number copies n ns false false later isnt differ =
    later copies
    ∙ sym (ap
    (λ (b : Bool). copies_onto id
    (cond b (copy_of n ∷ without_number number copies) (without_number number copies))
    (filter (λ m. not (nat_eq m.number number)) ns)) isnt)

copies_without : (id : List ℕ) (number : ℕ) (copies : List Copy) (ns : List ConflictNote)
    → without_number number (copies_onto id copies ns)
    ≡ copies_onto id (without_number number copies)
    (filter (λ m. not (nat_eq m.number number)) ns)
unfolding copies_onto
copies_without id number copies [] = refl
copies_without id number copies (n ∷ ns) =
    without_if id number copies n ns (bytes_eq n.note id) (n.number == number)
    (λ more. copies_without id number more ns) refl refl

-- without the notes of a number
pub copies_less : (id : List ℕ) (number : ℕ) (ns : List ConflictNote)
    → without_number number (copies_of id ns)
    ≡ copies_of id (filter (λ m. not (nat_eq m.number number)) ns)
unfolding without_number
copies_less id number ns = copies_without id number [] ns

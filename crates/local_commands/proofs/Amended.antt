-- The change that gives a note or a notebook another title or place.
use Rattle.std.specs.Prelude.{ℕ, ◌≡◌, List, [], length, Bool, true, false, max, ◌+◌, nat_eq, nat_le, if◌then◌else◌, Option, Some, None, Result, Ok, Err}
use Rattle.std.proofs.Common.{refl, sym, ap, subst}
use Rattle.jop_base.specs.Times.{last_time}
use Rattle.item_text.specs.Grammar.{written}
use Rattle.item_text.specs.declared.item.Item.{Item}
use Rattle.law_licences.specs.Licences.{IsLocal}
use Rattle.local_changes.specs.Amending.{Amends, amended_item}
use Rattle.local_changes.specs.Answers.{IsDueOrMemory}
use Rattle.local_changes.specs.Editing.{stamped}
use Rattle.local_changes.specs.Saving.{item_limit}
use Rattle.local_changes.specs.declared.amend.Amendment.{Amendment}
use Rattle.local_changes.specs.declared.store_err.StoreErr.{StoreErr}
use Rattle.local_changes.specs.declared.store_err.StoreErr.TheVariants.{NotFound, Sealed, TimeEnd, NotEmpty, TooLarge, NoMemory}
use Rattle.local_store.specs.Sound.{IsAllowed}
use Rattle.local_store.specs.declared.change.Change.{Change}
use Rattle.local_store.specs.declared.change.Change.TheVariants.{Saved}
use Rattle.local_commands.specs.Commands.Amend.{ChecksAmend, MakesAmend}
use Rattle.local_commands.specs.Refusals.{store_refusal}
use Rattle.local_commands.specs.Running.{one_change}
use Rattle.local_commands.specs.Saving.{saving}
use Rattle.local_commands.specs.Stages.{MakesOr}
use Rattle.local_commands.specs.declared.local_err.LocalErr.{LocalErr}
use Rattle.local_commands.specs.declared.local_err.LocalErr.TheVariants as errors
use Rattle.local_commands.specs.declared.work.Work.{Work}
use Rattle.local_commands.proofs.Edits.{one_updated}

-- an item is saved, unless time has ended for it or it doesn't fit
abbrev due : Bool → Bool → List ℕ → Item → ℕ → Result Change StoreErr
due ended fits id new len =
    if ended then Err (TimeEnd id) else if fits then Ok (Saved id new) else Err (TooLarge len)

-- what is made of that
abbrev Makes : Result Change StoreErr → Result Work LocalErr → Type 0
Makes change made = MakesOr (λ made. made ≡ saving change []) made

-- ---- what may be refused

not_ended : (ended below : Bool) (id : List ℕ)
    → None ≡ (if ended then Some (errors.TimeEnd id) else if below then Some (errors.BelowItself id) else None)
    → ended ≡ false
not_ended true below id is = absurd (cc is)
not_ended false below id is = refl

unmade : (fits : Bool) (id : List ℕ) (new : Item) (len : ℕ) (e : StoreErr)
    → IsDueOrMemory (due false fits id new len) (Err e)
    → Makes (due false fits id new len) (Err (store_refusal e))
unmade fits id new len NoMemory is = tt
unmade true id new len (NotFound other) is = absurd (cc is)
unmade true id new len (Sealed other) is = absurd (cc is)
unmade true id new len (TimeEnd other) is = absurd (cc is)
unmade true id new len (NotEmpty other) is = absurd (cc is)
unmade true id new len (TooLarge other) is = absurd (cc is)
unmade false id new len (NotFound other) is = absurd (cc is)
unmade false id new len (Sealed other) is = absurd (cc is)
unmade false id new len (TimeEnd other) is = absurd (cc is)
unmade false id new len (NotEmpty other) is = absurd (cc is)
unmade false id new len (TooLarge other) is =
    sym (ap (λ (change : Result Change StoreErr). saving change []) is)

unmade_now : (ended fits : Bool) (id : List ℕ) (new : Item) (len : ℕ) (e : StoreErr) → ended ≡ false
    → IsDueOrMemory (due ended fits id new len) (Err e)
    → Makes (due ended fits id new len) (Err (store_refusal e))
unmade_now true fits id new len e not is = absurd (cc not)
unmade_now false fits id new len e not is = unmade fits id new len e is

abbrev made_at : (id : List ℕ) (amendment : Amendment) (now last : ℕ) (item : Item) → Item
made_at id amendment now last item = stamped (max now (last + 1)) (amended_item amendment item)

-- what is refused of a plan is refused of one that asks less
told : (refusal : LocalErr) (P Q : Result Work LocalErr → Type 0)
    → ((made : Result Work LocalErr) → P made → Q made) → MakesOr P (Err refusal)
    → MakesOr Q (Err refusal)
told (errors.TooLarge len) P Q so makes = so (Err (errors.TooLarge len)) makes
told errors.NoMemory P Q so makes = tt
told errors.KeeperFault P Q so makes = absurd makes
told errors.SourceFault P Q so makes = absurd makes
told errors.ClockFault P Q so makes = absurd makes
told errors.EntropyFault P Q so makes = absurd makes
told (errors.NotFound id) P Q so makes = absurd makes
told (errors.NotOne count) P Q so makes = absurd makes
told (errors.Sealed id) P Q so makes = absurd makes
told (errors.TimeEnd id) P Q so makes = absurd makes
told (errors.NotEmpty id) P Q so makes = absurd makes
told (errors.BelowItself id) P Q so makes = absurd makes
told (errors.NoConflict number) P Q so makes = absurd makes
told errors.NotText P Q so makes = absurd makes

pub amend_unmade : (id : List ℕ) (missing : Option LocalErr) (below : Bool) (amendment : Amendment)
    (now : ℕ) (entry : Result Item StoreErr) (e : StoreErr)
    → ChecksAmend id missing below entry None → Amends id amendment now entry (Err e)
    → MakesOr (MakesAmend id amendment now entry) (Err (store_refusal e))
amend_unmade id (Some missing) below amendment now entry e checks amends = absurd (cc checks)
amend_unmade id None below amendment now (Err cause) e checks amends = absurd (cc checks)
amend_unmade id None below amendment now (Ok item) e (last, is, passed) (other, also, due_is) =
    let same = one_updated item.props last other is also in
    let live = not_ended (nat_eq last last_time) below id passed in
    let new = made_at id amendment now other item in
    told (store_refusal e)
    (λ made. made ≡ saving (due (nat_eq other last_time) (nat_le (length (written new)) item_limit) id new
    (length (written new))) [])
    (MakesAmend id amendment now (Ok item)) (λ made makes. (other, also, makes))
    (unmade_now (nat_eq other last_time) (nat_le (length (written new)) item_limit) id new
    (length (written new)) e
    (subst (λ (l : ℕ). nat_eq l last_time ≡ false) same live) due_is)

-- ---- what is made

made_local : (ended fits : Bool) (id : List ℕ) (new : Item) (len : ℕ) (change : Change)
    → due ended fits id new len ≡ Ok change → IsLocal change
made_local true fits id new len change is = absurd (cc is)
made_local false true id new len change is =
    let same : Saved id new ≡ change = cc is in subst IsLocal same tt
made_local false false id new len change is = absurd (cc is)

pub amend_made : (id : List ℕ) (amendment : Amendment) (now : ℕ) (entry : Result Item StoreErr)
    (change : Change) → Amends id amendment now entry (Ok change) → IsAllowed change
    → MakesOr (MakesAmend id amendment now entry) (Ok (one_change change []))
amend_made id amendment now (Err cause) change amends allowed = absurd (cc amends)
amend_made id amendment now (Ok item) change (last, is, due_is) allowed =
    let new = made_at id amendment now last item in
    let local = made_local (nat_eq last last_time) (nat_le (length (written new)) item_limit) id new
    (length (written new)) change due_is in (
      (last, is, sym (ap (λ (made : Result Change StoreErr). saving made []) due_is)),
      (allowed, tt),
      (local, tt),
    )

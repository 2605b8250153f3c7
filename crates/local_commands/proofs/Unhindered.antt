-- A run that nothing hinders goes well, unless memory runs out.
use Rattle.std.specs.Prelude.{ℕ, ◌≤◌, ◌<◌, ◌≡◌, List, length, Bool, true, false, Option, Some, None, Result, Ok, Err, refl}
use Rattle.std.proofs.Common.{arith, sym, ◌∙◌, ap, subst, inl, inr}
use Rattle.std.specs.Str.{IsUtf8}
use Rattle.client.specs.Outside.{OutsideNow}
use Rattle.item_text.specs.declared.item.Item.{Item}
use Rattle.jop_outside.specs.Outside.{SourceNow}
use Rattle.jop_outside.specs.Reading.{IsAllOf, IsPastLimit}
use Rattle.keeper.specs.Keepers.{IsOfKept, Kept}
use Rattle.local_changes.specs.Amending.{plain_entry}
use Rattle.local_changes.specs.Editing.{plain_note}
use Rattle.local_changes.specs.declared.amend.Amendment.TheVariants as amendments
use Rattle.local_changes.specs.declared.store_err.StoreErr.{StoreErr}
use Rattle.local_store.specs.Tables.{row_at}
use Rattle.local_store.specs.declared.tables.Tables.{Tables}
use Rattle.local_commands.proofs.Edits.{one_updated}
use Rattle.local_commands.proofs.Leaving.{drawn_fault, given_fault}
use Rattle.local_commands.proofs.Naming.{one_meant}
use Rattle.local_commands.specs.Commands.{plan_of}
use Rattle.local_commands.specs.Commands.Add.{add_plan}
use Rattle.local_commands.specs.Commands.Amend.{ChecksAmend, amend_plan, comes_below, missing_for, why_fixed}
use Rattle.local_commands.specs.Commands.Cat.{cat_plan}
use Rattle.local_commands.specs.Commands.Edit.{ChecksNote, edit_plan, why_last}
use Rattle.local_commands.specs.Commands.Lists.{ChecksList, list_plan, listed_by}
use Rattle.local_commands.specs.Commands.Mkbook.{mkbook_plan}
use Rattle.local_commands.specs.Commands.Rm.{rm_plan}
use Rattle.local_commands.specs.Commands.Tag.{tag_plan}
use Rattle.local_commands.specs.Commands.Untag.{untag_plan}
use Rattle.local_commands.specs.Drawing.{DrawsIds}
use Rattle.local_commands.specs.Following.{IsUnhindered, IsWellOrMemory, TellsFit}
use Rattle.local_commands.specs.Naming.{of_id}
use Rattle.local_commands.specs.Running.{IsRefusedByTables, IsUnmakeable, Plan, Runs}
use Rattle.local_commands.specs.Taking.{GivesNoText, GivesTooMuch, IsTextIf, Takes}
use Rattle.local_commands.specs.TypedIds.{meant_id, meant_id_if}
use Rattle.local_commands.specs.declared.command.LocalCommand.{LocalCommand}
use Rattle.local_commands.specs.declared.command.LocalCommand.TheVariants as commands
use Rattle.local_commands.specs.declared.command.listing.Listing.{Listing}
use Rattle.local_commands.specs.declared.command.listing.Listing.TheVariants as lists
use Rattle.local_commands.specs.declared.intake.Intake.{Intake}
use Rattle.local_commands.specs.declared.local_err.LocalErr.{LocalErr}
use Rattle.local_commands.specs.declared.local_err.LocalErr.TheVariants.{KeeperFault, SourceFault, ClockFault, EntropyFault, NotFound, NotOne, Sealed, TimeEnd, NotEmpty, BelowItself, NoConflict, TooLarge, NotText, NoMemory}

-- ---- the tables' answer

one_note : (id : List ℕ) (note : Result Item StoreErr) (one other : Option LocalErr)
    → ChecksNote id note one → ChecksNote id note other → one ≡ other
one_note id (Err e) one other h k = h ∙ sym k
one_note id (Ok item) one other h k =
    h.2 ∙ (ap (why_last id) (one_updated item.props h.0 k.0 h.1 k.1) ∙ sym k.2)

one_amend : (id : List ℕ) (missing : Option LocalErr) (below : Bool) (entry : Result Item StoreErr)
    (one other : Option LocalErr) → ChecksAmend id missing below entry one
    → ChecksAmend id missing below entry other → one ≡ other
one_amend id (Some missing) below entry one other h k = h ∙ sym k
one_amend id None below (Err e) one other h k = h ∙ sym k
one_amend id None below (Ok item) one other h k =
    h.2 ∙ (ap (why_fixed id below) (one_updated item.props h.0 k.0 h.1 k.1) ∙ sym k.2)

one_list : (which : Listing) (t : Tables) (one other : Option LocalErr) → ChecksList which t one
    → ChecksList which t other → one ≡ other
one_list (lists.NotesIn book) t one other h k = h ∙ sym k
one_list (lists.NotesWith tag) t one other h k = h ∙ sym k
one_list lists.Books t one other h k = h ∙ sym k
one_list (lists.Found part) t one other h k = h ∙ sym k
one_list lists.Resources t one other h k = h ∙ sym k
one_list lists.Tags t one other h k = h ∙ sym k
one_list lists.Trash t one other h k = h ∙ sym k

one_move : (t : Tables) (book id : List ℕ) (one other : Option LocalErr)
    → (amend_plan id (amendments.Book book)).Checks t one
    → (amend_plan id (amendments.Book book)).Checks t other → one ≡ other
one_move t book id one other h k =
    one_amend id (missing_for t (amendments.Book book)) (comes_below t id (amendments.Book book))
    (plain_entry id (row_at t id)) one other h k

pub one_answer : (command : LocalCommand) (t : Tables) (one other : Option LocalErr)
    → (plan_of command).Checks t one → (plan_of command).Checks t other → one ≡ other
one_answer (commands.Edit id title) t one other h k =
    one_meant (meant_id t id) (λ id. (edit_plan id title).Checks t) one other
    (λ id. one_note id (plain_note id (row_at t id)) one other) h k
one_answer (commands.Add book title) t one other h k =
    one_meant (meant_id t book) (λ book. (add_plan book title).Checks t) one other
    (λ book h k. h ∙ sym k) h k
one_answer (commands.Attach name mime) t one other h k = h ∙ sym k
one_answer (commands.Cat id) t one other h k =
    one_meant (meant_id t id) (λ id. (cat_plan id).Checks t) one other (λ id h k. h ∙ sym k) h k
one_answer (commands.Clear number) t one other h k = h ∙ sym k
one_answer commands.Conflicts t one other h k = h ∙ sym k
one_answer (commands.Find part) t one other h k = one_list (lists.Found part) t one other h k
one_answer (commands.Ls book) t one other h k =
    one_meant (meant_id_if t book) (λ book. (list_plan (listed_by book)).Checks t) one other
    (λ book. one_list (listed_by book) t one other) h k
one_answer (commands.Mkbook title parent) t one other h k =
    one_meant (meant_id_if t parent) (λ parent. (mkbook_plan title parent).Checks t) one other
    (λ parent h k. h ∙ sym k) h k
one_answer (commands.Move id book) t one other h k =
    one_meant (meant_id t id)
    (λ id. (of_id book (λ book. amend_plan id (amendments.Book book))).Checks t) one other
    (λ id. one_meant (meant_id t book) (λ book. (amend_plan id (amendments.Book book)).Checks t)
    one other (λ book. one_move t book id one other)) h k
one_answer (commands.Rename id title) t one other h k =
    one_meant (meant_id t id) (λ id. (amend_plan id (amendments.Title title)).Checks t) one other
    (λ id. one_amend id None false (plain_entry id (row_at t id)) one other) h k
one_answer commands.Resources t one other h k = one_list lists.Resources t one other h k
one_answer (commands.Rm id) t one other h k =
    one_meant (meant_id t id) (λ id. (rm_plan id).Checks t) one other (λ id h k. h ∙ sym k) h k
one_answer (commands.Show number) t one other h k = h ∙ sym k
one_answer (commands.Tag note title) t one other h k =
    one_meant (meant_id t note) (λ note. (tag_plan note title).Checks t) one other
    (λ note h k. h ∙ sym k) h k
one_answer (commands.Tagged tag) t one other h k =
    one_meant (meant_id t tag) (λ tag. (list_plan (lists.NotesWith tag)).Checks t) one other
    (λ tag. one_list (lists.NotesWith tag) t one other) h k
one_answer commands.Tags t one other h k = one_list lists.Tags t one other h k
one_answer commands.Trash t one other h k = one_list lists.Trash t one other h k
one_answer (commands.Untag note tag) t one other h k =
    one_meant (meant_id t note) (λ note. (of_id tag (λ tag. untag_plan note tag)).Checks t) one other
    (λ note. one_meant (meant_id t tag) (λ tag. (untag_plan note tag).Checks t) one other
    (λ tag h k. h ∙ sym k)) h k

-- ---- what is told

-- the tables that were read are those that are told
read_told : (kept : Option Kept) (k : Kept) (t : Tables) → kept ≡ Some k → IsOfKept kept t
    → t ≡ k.tables
read_told kept k t told of = subst (λ (o : Option Kept). IsOfKept o t) told of

-- and so are the bytes
all_told : (left after : Option (List ℕ)) (bytes read : List ℕ) → left ≡ Some bytes
    → IsAllOf left read after → read ≡ bytes
all_told left after bytes read told all =
    (subst (λ (o : Option (List ℕ)). IsAllOf o read after) told all).0

taken_told : (intake : Option Intake) (old new : SourceNow) (bytes read : List ℕ)
    → TellsFit intake old bytes → Takes intake old read new → read ≡ bytes
taken_told None old new bytes read fit takes = takes.0 ∙ sym fit
taken_told (Some intake) old new bytes read fit takes =
    all_told old.left new.left bytes read fit.0 takes.0.all

not_past : (limit : ℕ) (left after : Option (List ℕ)) (bytes : List ℕ) → left ≡ Some bytes
    → length bytes ≤ limit → ¬ IsPastLimit limit left after
not_past limit left after bytes told within past =
    let beyond : limit < length bytes =
    (subst (λ (o : Option (List ℕ)). IsPastLimit limit o after) told past).0 in
    omega (arith, within, beyond)

not_too_much : (len : ℕ) (intake : Option Intake) (old new : SourceNow) (bytes : List ℕ)
    → TellsFit intake old bytes → ¬ GivesTooMuch len intake old new
not_too_much len None old new bytes fit gives = gives
not_too_much len (Some intake) old new bytes fit gives =
    not_past intake.limit old.left new.left bytes fit.0 fit.1 gives.0.past

text_if : (asked : Bool) (bytes : List ℕ) → asked ≡ true → IsTextIf asked bytes → IsUtf8 bytes
text_if true bytes is text = text
text_if false bytes is text = absurd cc

not_textless : (intake : Option Intake) (old new : SourceNow) (bytes : List ℕ)
    → TellsFit intake old bytes → ¬ GivesNoText intake old new
not_textless None old new bytes fit gives = gives
not_textless (Some intake) old new bytes fit gives =
    gives.refused
    (subst IsUtf8 (sym (all_told old.left new.left bytes gives.bytes fit.0 gives.read.all))
    (text_if intake.text bytes gives.asked fit.2))

-- ---- each answer

-- the tables give one answer
abbrev IsDecided : Plan → Type 0
IsDecided p =
    (t : Tables) (one other : Option LocalErr) → p.Checks t one → p.Checks t other → one ≡ other

not_refused : (p : Plan) (old new : OutsideNow) (refusal : LocalErr) → IsDecided p
    → IsUnhindered p old new → ¬ IsRefusedByTables p old new refusal
not_refused p old new refusal decided free is =
    let same = read_told old.keeper.kept free.kept is.tables free.told is.kept.told in
    let both : None ≡ Some refusal =
    decided free.kept.tables None (Some refusal) free.allowed
    (subst (λ (t : Tables). p.Checks t (Some refusal)) same is.checks) in
    cc both

not_unmade : (p : Plan) (old new : OutsideNow) (refusal : LocalErr) → IsUnhindered p old new
    → ¬ IsUnmakeable p old new refusal
not_unmade p old new refusal free is =
    let m = is.made in
    let fed = m.timed.fed in
    let tables = read_told old.keeper.kept free.kept m.tables free.told fed.allowed.kept.told in
    let bytes = taken_told p.intake old.input new.input free.bytes m.input free.fit fed.takes in
    free.makeable m.now m.ids refusal m.timed.shows
    (subst (λ (t : Tables). DrawsIds p.draws t old.entropy m.ids new.entropy) tables m.draws)
    (subst (λ (b : List ℕ). p.Makes free.kept.tables b m.now m.ids (Err refusal)) bytes
    (subst (λ (t : Tables). p.Makes t m.input m.now m.ids (Err refusal)) tables m.makes))

by_answer : (p : Plan) (old new : OutsideNow) (answer : Result (List ℕ) LocalErr) → IsDecided p
    → Runs p old answer new → IsUnhindered p old new → IsWellOrMemory answer
by_answer p old new (Ok text) decided is free = inl refl
by_answer p old new (Err NoMemory) decided is free = inr refl
by_answer p old new (Err KeeperFault) decided (inl is) free =
    absurd (free.unfailed.keeper is.risen)
by_answer p old new (Err KeeperFault) decided (inr is) free = absurd (free.unfailed.keeper is.1)
by_answer p old new (Err (NotFound id)) decided is free =
    absurd (not_refused p old new (NotFound id) decided free is)
by_answer p old new (Err (NotOne count)) decided is free =
    absurd (not_refused p old new (NotOne count) decided free is)
by_answer p old new (Err (Sealed id)) decided is free =
    absurd (not_refused p old new (Sealed id) decided free is)
by_answer p old new (Err (TimeEnd id)) decided is free =
    absurd (not_refused p old new (TimeEnd id) decided free is)
by_answer p old new (Err (NotEmpty id)) decided is free =
    absurd (not_refused p old new (NotEmpty id) decided free is)
by_answer p old new (Err (BelowItself id)) decided is free =
    absurd (not_refused p old new (BelowItself id) decided free is)
by_answer p old new (Err (NoConflict number)) decided is free =
    absurd (not_refused p old new (NoConflict number) decided free is)
by_answer p old new (Err SourceFault) decided is free =
    absurd (free.unfailed.input (given_fault p.intake old.input new.input is.ends))
by_answer p old new (Err (TooLarge len)) decided (inl is) free =
    absurd (not_too_much len p.intake old.input new.input free.bytes free.fit is.ends)
by_answer p old new (Err (TooLarge len)) decided (inr is) free =
    absurd (not_unmade p old new (TooLarge len) free is)
by_answer p old new (Err NotText) decided is free =
    absurd (not_textless p.intake old.input new.input free.bytes free.fit is.ends)
by_answer p old new (Err ClockFault) decided is free = absurd (free.unfailed.clock is.risen)
by_answer p old new (Err EntropyFault) decided is free =
    absurd (free.unfailed.entropy (drawn_fault p.draws old.entropy new.entropy is.fails))

pub goes_well : (command : LocalCommand) (old new : OutsideNow)
    (answer : Result (List ℕ) LocalErr) → Runs (plan_of command) old answer new
    → IsUnhindered (plan_of command) old new → IsWellOrMemory answer
goes_well command old new answer is free =
    by_answer (plan_of command) old new answer (one_answer command) is free

-- Histories that are written out: some are fair, and in some a note is lost.
use Rattle.std.specs.Prelude.{ℕ, List, [], ◌∷◌, codes, true, false, Option, Some, None}
use Rattle.item_text.specs.declared.item.Item.{Item}
use Rattle.local_store.specs.declared.content.Content.TheVariants.{Plain}
use Rattle.law_kept.specs.Acts.{ItemChange, Saved, Removed, Uploaded, Dropped, Taken, Conflict, Gone, Shown, Missing, Begins, Gets, Puts, Deletes, Changes, Ends, FileStep, Version, FileHistory}
use Rattle.law_kept.specs.Gap.{does}

-- ---- who, and what

abbrev pub first_client : List ℕ
first_client = 1 ∷ []

abbrev pub second_client : List ℕ
second_client = 2 ∷ []

-- an item of this kind, whose title is the letter
abbrev pub an_item : List ℕ → ℕ → Item
an_item kind letter = record {
  title = Some (letter ∷ []);
  body = [];
  props = record { key = codes "type_"; value = kind } ∷ [];
}

abbrev pub a_lettered_note : ℕ → Item
a_lettered_note letter = an_item (codes "1") letter

abbrev pub a_notebook : ℕ → Item
a_notebook letter = an_item (codes "2") letter

-- in these histories a note is put as its letter
abbrev pub put_as : ℕ → List ℕ
put_as letter = letter ∷ []

abbrev pub read_as_note : List ℕ → Option Item
read_as_note [] = None
read_as_note (letter ∷ more) = Some (a_lettered_note letter)

abbrev pub read_as_notebook : List ℕ → Option Item
read_as_notebook [] = None
read_as_notebook (letter ∷ more) = Some (a_notebook letter)

-- the note was there before any of these clients
abbrev pub a_file : ℕ → Option Version
a_file letter = Some (record { bytes = put_as letter; item = Some (a_lettered_note letter) })

-- ---- what they do

abbrev pub changes : List ℕ → ItemChange → FileStep
changes client change = does client (Changes change)

-- the client gets the file, which shows this letter
abbrev pub sees : List ℕ → ℕ → FileStep
sees client letter = does client (Gets (Shown (put_as letter)))

-- the client puts this letter, and hears that it landed
abbrev pub puts_letter : List ℕ → ℕ → FileStep
puts_letter client letter = does client (Puts (put_as letter) true true)

abbrev pub takes : List ℕ → ℕ → FileStep
takes client letter = changes client (Taken (put_as letter) (Plain (a_lettered_note letter)))

-- the client's row gives way to the file with this letter, and is copied under the number, if there is one
abbrev pub meets : List ℕ → ℕ → Option ℕ → FileStep
meets client letter copied =
    changes client (Conflict (Some (put_as letter, Plain (a_lettered_note letter))) copied)

-- ---- fair histories

-- Two clients change one note at once. The second one's change comes first, and the first one's is copied.
abbrev pub a_conflict_with : Option ℕ → FileHistory
a_conflict_with copied = record {
  opening = None;
  steps =
      changes first_client (Saved (a_lettered_note 1))
      ∷ does first_client Begins
      ∷ does first_client (Gets Missing)
      ∷ puts_letter first_client 1
      ∷ changes first_client (Uploaded (put_as 1))
      ∷ does first_client Ends
      ∷ does second_client Begins
      ∷ sees second_client 1
      ∷ takes second_client 1
      ∷ does second_client Ends
      ∷ changes first_client (Saved (a_lettered_note 3))
      ∷ changes second_client (Saved (a_lettered_note 2))
      ∷ does second_client Begins
      ∷ does first_client Begins
      ∷ sees second_client 1
      ∷ puts_letter second_client 2
      ∷ sees first_client 2
      ∷ changes second_client (Uploaded (put_as 2))
      ∷ meets first_client 2 copied
      ∷ does first_client Ends
      ∷ does second_client Ends
      ∷ [];
}

abbrev pub a_copied_conflict : FileHistory
a_copied_conflict = a_conflict_with (Some 1)

-- A put lands and isn't heard of. In its next session the client finds its own text there, and copies nothing.
abbrev pub a_lost_answer : FileHistory
a_lost_answer = record {
  opening = None;
  steps =
      changes first_client (Saved (a_lettered_note 1))
      ∷ does first_client Begins
      ∷ does first_client (Gets Missing)
      ∷ does first_client (Puts (put_as 1) true false)
      ∷ does first_client Ends
      ∷ does first_client Begins
      ∷ sees first_client 1
      ∷ meets first_client 1 None
      ∷ does first_client Ends
      ∷ [];
}

-- ---- histories in which a note is lost, but for one step fair

-- The second client puts the letter 2 where the file is 3. What it last knew of the file was 1.
abbrev pub a_stale_put : FileHistory
a_stale_put = record {
  opening = a_file 1;
  steps =
      does first_client Begins
      ∷ sees first_client 1
      ∷ takes first_client 1
      ∷ does first_client Ends
      ∷ does second_client Begins
      ∷ sees second_client 1
      ∷ takes second_client 1
      ∷ does second_client Ends
      ∷ changes first_client (Saved (a_lettered_note 3))
      ∷ changes second_client (Saved (a_lettered_note 2))
      ∷ does first_client Begins
      ∷ sees first_client 1
      ∷ puts_letter first_client 3
      ∷ changes first_client (Uploaded (put_as 3))
      ∷ does first_client Ends
      ∷ does second_client Begins
      ∷ sees second_client 3
      ∷ puts_letter second_client 2
      ∷ changes second_client (Uploaded (put_as 2))
      ∷ does second_client Ends
      ∷ does first_client Begins
      ∷ sees first_client 2
      ∷ takes first_client 2
      ∷ does first_client Ends
      ∷ [];
}

-- the first client's change gives way to another text, and isn't copied
abbrev pub an_uncopied_conflict : FileHistory
an_uncopied_conflict = a_conflict_with None

-- the note was deleted by one client while another one changed it, and the change goes with the file
abbrev pub an_uncopied_loss : FileHistory
an_uncopied_loss = record {
  opening = a_file 1;
  steps =
      does first_client Begins
      ∷ sees first_client 1
      ∷ takes first_client 1
      ∷ does first_client Ends
      ∷ changes first_client (Saved (a_lettered_note 2))
      ∷ does second_client Begins
      ∷ sees second_client 1
      ∷ takes second_client 1
      ∷ does second_client Ends
      ∷ changes second_client Removed
      ∷ does second_client Begins
      ∷ does second_client (Deletes true)
      ∷ changes second_client Dropped
      ∷ does second_client Ends
      ∷ does first_client Begins
      ∷ does first_client (Gets Missing)
      ∷ changes first_client (Conflict None None)
      ∷ does first_client Ends
      ∷ [];
}

-- the client takes the file in place of its own change
abbrev pub a_take_over_a_change : FileHistory
a_take_over_a_change = record {
  opening = a_file 1;
  steps =
      changes first_client (Saved (a_lettered_note 2))
      ∷ does first_client Begins
      ∷ sees first_client 1
      ∷ takes first_client 1
      ∷ does first_client Ends
      ∷ [];
}

-- The first client checks the file, and its session ends. The second one puts the letter 2. Then the first one puts its
-- own in a new session, without another check.
abbrev pub an_old_check : FileHistory
an_old_check = record {
  opening = a_file 1;
  steps =
      does first_client Begins
      ∷ sees first_client 1
      ∷ takes first_client 1
      ∷ does first_client Ends
      ∷ changes first_client (Saved (a_lettered_note 3))
      ∷ does first_client Begins
      ∷ sees first_client 1
      ∷ does first_client Ends
      ∷ does second_client Begins
      ∷ sees second_client 1
      ∷ takes second_client 1
      ∷ does second_client Ends
      ∷ changes second_client (Saved (a_lettered_note 2))
      ∷ does second_client Begins
      ∷ sees second_client 1
      ∷ puts_letter second_client 2
      ∷ changes second_client (Uploaded (put_as 2))
      ∷ does second_client Ends
      ∷ does first_client Begins
      ∷ puts_letter first_client 3
      ∷ changes first_client (Uploaded (put_as 3))
      ∷ does first_client Ends
      ∷ does second_client Begins
      ∷ sees second_client 3
      ∷ takes second_client 3
      ∷ does second_client Ends
      ∷ [];
}

-- the client notes that its put landed, of which it didn't hear
abbrev pub an_unheard_upload : FileHistory
an_unheard_upload = record {
  opening = None;
  steps =
      changes first_client (Saved (a_lettered_note 1))
      ∷ does first_client Begins
      ∷ does first_client (Gets Missing)
      ∷ does first_client (Puts (put_as 1) false false)
      ∷ changes first_client (Uploaded (put_as 1))
      ∷ does first_client Ends
      ∷ does first_client Begins
      ∷ changes first_client Gone
      ∷ does first_client Ends
      ∷ [];
}

-- the note is saved again between its upload and the client's noting that, so the new text is never put
abbrev pub a_save_within : FileHistory
a_save_within = record {
  opening = None;
  steps =
      changes first_client (Saved (a_lettered_note 1))
      ∷ does first_client Begins
      ∷ does first_client (Gets Missing)
      ∷ puts_letter first_client 1
      ∷ changes first_client (Saved (a_lettered_note 2))
      ∷ changes first_client (Uploaded (put_as 1))
      ∷ does first_client Ends
      ∷ does second_client Begins
      ∷ sees second_client 1
      ∷ takes second_client 1
      ∷ does second_client Ends
      ∷ changes second_client (Saved (a_lettered_note 3))
      ∷ does second_client Begins
      ∷ sees second_client 1
      ∷ puts_letter second_client 3
      ∷ changes second_client (Uploaded (put_as 3))
      ∷ does second_client Ends
      ∷ does first_client Begins
      ∷ sees first_client 3
      ∷ takes first_client 3
      ∷ does first_client Ends
      ∷ [];
}

-- a client deletes the file, though the note doesn't stand in its deletions
abbrev pub an_unasked_delete : FileHistory
an_unasked_delete = record {
  opening = None;
  steps =
      changes first_client (Saved (a_lettered_note 1))
      ∷ does first_client Begins
      ∷ does first_client (Gets Missing)
      ∷ puts_letter first_client 1
      ∷ changes first_client (Uploaded (put_as 1))
      ∷ does first_client Ends
      ∷ does second_client Begins
      ∷ does second_client (Deletes true)
      ∷ does second_client Ends
      ∷ does first_client Begins
      ∷ changes first_client Gone
      ∷ does first_client Ends
      ∷ [];
}

-- ---- histories in which a note is lost though each client does what it may

-- both clients check before either puts
abbrev pub a_gap : FileHistory
a_gap = record {
  opening = None;
  steps =
      changes first_client (Saved (a_lettered_note 1))
      ∷ changes second_client (Saved (a_lettered_note 2))
      ∷ does first_client Begins
      ∷ does second_client Begins
      ∷ does first_client (Gets Missing)
      ∷ does second_client (Gets Missing)
      ∷ puts_letter first_client 1
      ∷ changes first_client (Uploaded (put_as 1))
      ∷ puts_letter second_client 2
      ∷ changes second_client (Uploaded (put_as 2))
      ∷ does first_client Ends
      ∷ does second_client Ends
      ∷ does first_client Begins
      ∷ sees first_client 2
      ∷ takes first_client 2
      ∷ does first_client Ends
      ∷ [];
}

-- the second client is shown the letter 1, where the file is 3
abbrev pub a_lie : FileHistory
a_lie = record {
  opening = a_file 1;
  steps =
      does first_client Begins
      ∷ sees first_client 1
      ∷ takes first_client 1
      ∷ does first_client Ends
      ∷ does second_client Begins
      ∷ sees second_client 1
      ∷ takes second_client 1
      ∷ does second_client Ends
      ∷ changes first_client (Saved (a_lettered_note 3))
      ∷ changes second_client (Saved (a_lettered_note 2))
      ∷ does first_client Begins
      ∷ sees first_client 1
      ∷ puts_letter first_client 3
      ∷ changes first_client (Uploaded (put_as 3))
      ∷ does first_client Ends
      ∷ does second_client Begins
      ∷ sees second_client 1
      ∷ puts_letter second_client 2
      ∷ changes second_client (Uploaded (put_as 2))
      ∷ does second_client Ends
      ∷ does first_client Begins
      ∷ sees first_client 2
      ∷ takes first_client 2
      ∷ does first_client Ends
      ∷ [];
}

-- ---- what isn't kept

-- a notebook that was changed here gives way to the file, and isn't copied
abbrev pub a_changed_notebook : FileHistory
a_changed_notebook = record {
  opening = Some (record { bytes = put_as 1; item = Some (a_notebook 1) });
  steps =
      changes first_client (Saved (a_notebook 2))
      ∷ does first_client Begins
      ∷ sees first_client 1
      ∷ changes first_client (Conflict (Some (put_as 1, Plain (a_notebook 1))) None)
      ∷ does first_client Ends
      ∷ [];
}

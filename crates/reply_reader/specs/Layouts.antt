-- How far the body that lists a folder was read.
use Rattle.std.specs.Prelude.{◌≡◌, ℕ, ◌<◌, ◌≤◌, ◌==◌, Bool, false, List, [], ◌∷◌, ◌++◌, length, Option}
use Rattle.std.specs.List.{list_any}
use Rattle.dav_parts.specs.Multistatus.{IsLineOf, ComesAfter, ReadsLines, ReadsMultistatus, ending, folder_lines}
use Rattle.jop_base.specs.declared.dir.Dir.{Dir}
use Rattle.jop_target.specs.declared.reply.Entry.{Entry}
use Rattle.reply_reader.specs.declared.layout_reader.LayoutReader.{LayoutReader}
use Rattle.reply_reader.specs.declared.layout_reader.Place.{Place}
use Rattle.reply_reader.specs.declared.layout_reader.Place.TheVariants.{Front, Files, Ended, Lost}
use Rattle.reply_reader.specs.declared.line.Line.{Line}
use Rattle.reply_reader.specs.declared.line.Line.TheVariants.{File, Last, Other}

-- whether a line feed stands in the text
abbrev pub has_feed : List ℕ → Bool
has_feed text = list_any (λ b. b == 10) text

-- the text is one line: its last byte is a line feed, and its only one
abbrev pub IsOneLine : List ℕ → Type 0
IsOneLine text = (part : List ℕ) × (text ≡ part ++ 10 ∷ []) × (has_feed part ≡ false)

-- the text doesn't begin with the lines of the folder itself
abbrev pub HasNoFront : Dir → List ℕ → Type 0
HasNoFront dir text = (rest : List ℕ) → ¬ (text ≡ folder_lines dir rest)

-- ---- where a reader stands

-- the text from this place on, behind that file, reads as these files
abbrev pub ReadsFrom : Place → Dir → Option Entry → List ℕ → List Entry → Type 0
ReadsFrom Front dir before text entries = ReadsMultistatus dir entries text
ReadsFrom Files dir before text entries = ReadsLines dir before entries text
ReadsFrom Ended dir before text entries = (entries ≡ []) × (text ≡ [])
ReadsFrom Lost dir before text entries = ⊥

-- what is kept: less than the lines of the folder itself, less than a line, or nothing; and little
abbrev pub IsHalfLine : Place → Dir → List ℕ → Type 0
IsHalfLine Front dir line = HasNoFront dir line × (length line < 512)
IsHalfLine Files dir line = (has_feed line ≡ false) × (length line < 512)
IsHalfLine Ended dir line = line ≡ []
IsHalfLine Lost dir line = line ≡ []

-- So much of a body came: whatever is still to come, the whole reads as the files so far and then as
-- the rest reads, and as nothing else.
pub record HasReadLayout (r : LayoutReader) (done : List ℕ) : Type 0 where
  pub sound : (rest : List ℕ) (more : List Entry)
      → ReadsFrom r.place r.dir r.before (r.line ++ rest) more
      → ReadsMultistatus r.dir (r.entries ++ more) (done ++ rest)
  pub only : (rest : List ℕ) (all : List Entry) → ReadsMultistatus r.dir all (done ++ rest)
      → (more : List Entry) × (all ≡ r.entries ++ more)
      × ReadsFrom r.place r.dir r.before (r.line ++ rest) more
  pub half : IsHalfLine r.place r.dir r.line

-- The reader went on by these bytes: what it reads from there on is what it read from the first of
-- them on, and nothing else.
pub record ReadsFurther (r s : LayoutReader) (came : List ℕ) : Type 0 where
  pub dir : s.dir ≡ r.dir
  pub back : (rest : List ℕ) (more : List Entry)
      → ReadsFrom s.place r.dir s.before (s.line ++ rest) more
      → (old : List Entry) × (r.entries ++ old ≡ s.entries ++ more)
      × ReadsFrom r.place r.dir r.before (r.line ++ (came ++ rest)) old
  pub forth : (rest : List ℕ) (old : List Entry)
      → ReadsFrom r.place r.dir r.before (r.line ++ (came ++ rest)) old
      → (more : List Entry) × (r.entries ++ old ≡ s.entries ++ more)
      × ReadsFrom s.place r.dir s.before (s.line ++ rest) more
  pub half : IsHalfLine s.place r.dir s.line

-- lines are read there
abbrev pub TakesLines : Place → Type 0
TakesLines Front = Unit {0}
TakesLines Files = Unit {0}
TakesLines Ended = ⊥
TakesLines Lost = ⊥

-- ---- lines

-- what comes next behind this text
abbrev pub IsFront : Dir → List ℕ → Place → Type 0
IsFront dir text Front = HasNoFront dir text × (length text < 512)
IsFront dir text Files = (rest : List ℕ) × (text ≡ folder_lines dir rest)
IsFront dir text Lost = HasNoFront dir text × (512 ≤ length text)
IsFront dir text Ended = ⊥

-- what a line is behind that file
abbrev pub LineSays : Dir → Option Entry → List ℕ → Line → Type 0
LineSays dir before line (File entry) =
    ((rest : List ℕ) × IsLineOf dir entry line rest) × ComesAfter before entry × ¬ (line ≡ ending)
LineSays dir before line Last = line ≡ ending
LineSays dir before line Other =
    (¬ (line ≡ ending))
    × ((entry : Entry) (rest : List ℕ) → IsLineOf dir entry line rest → ¬ (ComesAfter before entry))

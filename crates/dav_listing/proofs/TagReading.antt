-- A tag is read as its local name, whatever its prefix, its attributes and its blanks.
use Rattle.std.proofs.Common.{◌≡◌, ◌∙◌, refl, sym, ap, arith, ℕ, ◌+◌, ◌≤◌, ◌<◌, List, [], ◌∷◌, ◌++◌, length, Bool, true, false, Some, None, append-nil, append_assoc, length-append}
use Rattle.std.specs.Prelude.{◌==◌, ◌||◌, ◌&&◌, not, nat_lt, if◌then◌else◌}
use Rattle.std.specs.List.{list_all}
use Rattle.std.proofs.lemmas.Bool.{false≢true, cond-true, cond-false, eqb-true, or_from, and_parts}
use Rattle.std.proofs.lemmas.Bool.Decides.{nat_tests}
use Rattle.dav_listing.specs.Lexing.{effect_of, in_end_name, in_start_name, is_name_byte, is_xml_blank}
use Rattle.dav_listing.specs.Multistatus.{Progress, after_effect, element_begun, done_with, gone_wrong, one_on, progress_behind, reached, unmarked}
use Rattle.dav_listing.specs.Tags.{IsLocalName, IsTag, Tag, are_attributes, are_blank, empty_tag, end_tag, is_quoted_well, qualified, start_tag}
use Rattle.dav_listing.specs.declared.mode.Mode.{Mode}
use Rattle.dav_listing.specs.declared.mode.Mode.TheVariants as modes
use Rattle.dav_listing.specs.declared.mode.Effect.{Effect}
use Rattle.dav_listing.specs.declared.mode.Effect.TheVariants as effects
use Rattle.dav_listing.specs.declared.multistatus_reader.MultistatusReader.{MultistatusReader}
use Rattle.dav_listing.proofs.FileNames.{false_unless}
use Rattle.dav_listing.proofs.ProgressLemmas.{progress_behind-append}

-- ---- bytes

is_not : (test : ℕ → Bool) (n b : ℕ) → test n ≡ false → test b ≡ true → (b == n) ≡ false
is_not test n b other same = false_unless (b == n) (λ it.
    false≢true (sym other ∙ ap test (sym (eqb-true b n it)) ∙ same))

name_is_not : (n b : ℕ) → is_name_byte n ≡ false → is_name_byte b ≡ true → (b == n) ≡ false
name_is_not n b other name = is_not is_name_byte n b other name

pub blank_is_not : (n b : ℕ) → is_xml_blank n ≡ false → is_xml_blank b ≡ true → (b == n) ≡ false
blank_is_not n b other blank = is_not is_xml_blank n b other blank

name_no_blank : (b : ℕ) → is_name_byte b ≡ true → is_xml_blank b ≡ false
name_no_blank b name =
    or_from _ _ (or_from _ _ (or_from _ _ (name_is_not 32 b refl name) (name_is_not 9 b refl name))
    (name_is_not 10 b refl name)) (name_is_not 13 b refl name)

-- a mode in which a byte of a name is one more of it
abbrev TakesNames : Mode → Type 0
TakesNames mode = (b : ℕ) → is_name_byte b ≡ true → effect_of mode b ≡ effects.Add mode

start_takes : (mode : Mode) (b : ℕ) → is_name_byte b ≡ true → in_start_name mode b ≡ effects.Add mode
start_takes mode b name =
    cond-false (b == 62) _ _ (name_is_not 62 b refl name)
    ∙ cond-false (b == 47) _ _ (name_is_not 47 b refl name)
    ∙ cond-false (is_xml_blank b) _ _ (name_no_blank b name)
    ∙ cond-true (is_name_byte b) _ _ name

end_takes : (mode : Mode) (b : ℕ) → is_name_byte b ≡ true → in_end_name mode b ≡ effects.Add mode
end_takes mode b name =
    cond-false (b == 62) _ _ (name_is_not 62 b refl name)
    ∙ cond-false (is_xml_blank b) _ _ (name_no_blank b name)
    ∙ cond-true (is_name_byte b) _ _ name

open_local_takes : TakesNames modes.OpenLocal
open_local_takes b name = start_takes modes.OpenLocal b name

open_name_takes : TakesNames modes.OpenName
open_name_takes b name =
    cond-false (b == 58) _ _ (name_is_not 58 b refl name) ∙ start_takes modes.OpenName b name

close_local_takes : TakesNames modes.CloseLocal
close_local_takes b name = end_takes modes.CloseLocal b name

close_name_takes : TakesNames modes.CloseName
close_name_takes b name =
    cond-false (b == 58) _ _ (name_is_not 58 b refl name) ∙ end_takes modes.CloseName b name

start_blank : (mode : Mode) (b : ℕ) → is_xml_blank b ≡ true
    → in_start_name mode b ≡ effects.Go modes.Inside
start_blank mode b blank =
    cond-false (b == 62) _ _ (blank_is_not 62 b refl blank)
    ∙ cond-false (b == 47) _ _ (blank_is_not 47 b refl blank)
    ∙ cond-true (is_xml_blank b) _ _ blank

end_blank : (mode : Mode) (b : ℕ) → is_xml_blank b ≡ true
    → in_end_name mode b ≡ effects.Go modes.CloseEnd
end_blank mode b blank =
    cond-false (b == 62) _ _ (blank_is_not 62 b refl blank)
    ∙ cond-true (is_xml_blank b) _ _ blank

-- ---- within a tag

-- a reader within a tag, with this name at hand
abbrev pub tagging : Progress → Mode → List ℕ → Progress
tagging p mode mark = record {
  reader = record (p.reader) { mode = mode; mark = mark; ended = None };
  members = p.members;
}

abbrev stepped : Progress → Mode → List ℕ → ℕ → Progress
stepped p mode mark b =
    reached (tagging p mode mark) (one_on (tagging p mode mark).reader b)

pub went : (p : Progress) (mode later : Mode) (mark : List ℕ) (b : ℕ)
    → effect_of mode b ≡ effects.Go later → stepped p mode mark b ≡ tagging p later mark
unfolding one_on
went p mode later mark b e =
    ap (λ (x : Effect). reached p (after_effect (tagging p mode mark).reader b x)) e

pub renamed : (p : Progress) (mode later : Mode) (mark : List ℕ) (b : ℕ)
    → effect_of mode b ≡ effects.Begin later → stepped p mode mark b ≡ tagging p later []
unfolding one_on
renamed p mode later mark b e =
    ap (λ (x : Effect). reached p (after_effect (tagging p mode mark).reader b x)) e

pub named : (p : Progress) (mode later : Mode) (mark : List ℕ) (b : ℕ)
    → effect_of mode b ≡ effects.Add later → length mark < 64
    → stepped p mode mark b ≡ tagging p later (mark ++ b ∷ [])
unfolding one_on
named p mode later mark b e short =
    ap (λ (x : Effect). reached p (after_effect (tagging p mode mark).reader b x)) e
    ∙ ap (reached p) (cond-true (nat_lt (length mark) 64)
    (record (tagging p mode mark).reader { mode = later; mark = mark ++ b ∷ [] })
    (gone_wrong (tagging p mode mark).reader) (grind (arith, nat_tests)))

-- a name is read on
names : (p : Progress) (mode : Mode) (mark bytes : List ℕ) → TakesNames mode
    → list_all is_name_byte bytes ≡ true → length mark + length bytes ≤ 64
    → progress_behind (tagging p mode mark) bytes ≡ tagging p mode (mark ++ bytes)
unfolding progress_behind
names p mode mark [] takes all short = ap (tagging p mode) (sym (append-nil mark))
names p mode mark (b ∷ bytes) takes all short =
    let parts = and_parts (is_name_byte b) (list_all is_name_byte bytes) all in
    ap (λ (q : Progress). progress_behind q bytes)
    (named p mode mode mark b (takes b parts.0) (omega arith))
    ∙ names p mode (mark ++ b ∷ []) bytes takes parts.1
    (omega (arith, length-append mark (b ∷ [])))
    ∙ ap (tagging p mode) (append_assoc mark (b ∷ []) bytes)

pub then_rest : (p q : Progress) (xs ys : List ℕ) → progress_behind p xs ≡ q
    → progress_behind p (xs ++ ys) ≡ progress_behind q ys
then_rest p q xs ys e =
    progress_behind-append p xs ys ∙ ap (λ (x : Progress). progress_behind x ys) e

-- behind a name such a byte ends the tag, or goes on to its attributes
record IsBehindName (mode : Mode) : Type 0 where
  opens : effect_of mode 62 ≡ effects.Open
  slash : effect_of mode 47 ≡ effects.Go modes.Slash
  blank : (b : ℕ) → is_xml_blank b ≡ true → effect_of mode b ≡ effects.Go modes.Inside

behind_local : IsBehindName modes.OpenLocal
behind_local = record {
  opens = refl;
  slash = refl;
  blank = λ b is. start_blank modes.OpenLocal b is;
}

behind_name : IsBehindName modes.OpenName
behind_name = record {
  opens = refl;
  slash = refl;
  blank = λ b is. cond-false (b == 58) _ _ (blank_is_not 58 b refl is)
      ∙ start_blank modes.OpenName b is;
}

-- where a start tag's name was read
record HasName (p : Progress) (text name : List ℕ) : Type 0 where
  mode : Mode
  behind : IsBehindName mode
  read : progress_behind (tagging p modes.Tag []) text ≡ tagging p mode name

first_byte : (p : Progress) (b : ℕ) (bytes : List ℕ) → list_all is_name_byte (b ∷ bytes) ≡ true
    → length bytes < 64
    → progress_behind (tagging p modes.Tag []) (b ∷ bytes) ≡ tagging p modes.OpenName (b ∷ bytes)
unfolding progress_behind
first_byte p b bytes all short =
    let parts = and_parts (is_name_byte b) (list_all is_name_byte bytes) all in
    ap (λ (q : Progress). progress_behind q bytes)
    (named p modes.Tag modes.OpenName [] b
    (cond-false (b == 47) _ _ (name_is_not 47 b refl parts.0)
    ∙ cond-false (b == 63) _ _ (name_is_not 63 b refl parts.0)
    ∙ cond-true (is_name_byte b) _ _ parts.0) (omega arith))
    ∙ names p modes.OpenName (b ∷ []) bytes open_name_takes parts.1 (omega arith)

start_name : (p : Progress) (prefix name : List ℕ) → list_all is_name_byte prefix ≡ true
    → length prefix ≤ 64 → IsLocalName name → HasName p (qualified prefix name) name
unfolding progress_behind
start_name p [] [] pre short l = absurd (omega (arith, l.long))
start_name p [] (n ∷ ns) pre short l = record {
  mode = modes.OpenName;
  behind = behind_name;
  read = first_byte p n ns l.bytes (omega (arith, l.short));
}
start_name p (b ∷ prefix) name pre short l = record {
  mode = modes.OpenLocal;
  behind = behind_local;
  read = then_rest (tagging p modes.Tag []) (tagging p modes.OpenName (b ∷ prefix)) (b ∷ prefix)
      (58 ∷ name) (first_byte p b prefix pre (omega arith))
      ∙ ap (λ (q : Progress). progress_behind q name)
      (renamed p modes.OpenName modes.OpenLocal (b ∷ prefix) 58 refl)
      ∙ names p modes.OpenLocal [] name open_local_takes l.bytes (omega (arith, l.short));
}

-- ---- attributes

-- from this mode on a text is passed over
abbrev Skips : Progress → List ℕ → Mode → List ℕ → Type 0
Skips p mark mode text =
    progress_behind (tagging p mode mark) text ≡ tagging p modes.Inside mark

-- what a text of attributes does, from outside quotes on and from inside
record IsSkipped (p : Progress) (mark text : List ℕ) : Type 0 where
  bare : is_quoted_well None text ≡ true → Skips p mark modes.Inside text
  double : is_quoted_well (Some 34) text ≡ true → Skips p mark modes.DoubleQuoted text
  single : is_quoted_well (Some 39) text ≡ true → Skips p mark modes.SingleQuoted text

pub or_parts : (a b : Bool) → (a || b) ≡ false → (a ≡ false) × (b ≡ false)
or_parts true b h = absurd (false≢true (sym h))
or_parts false b h = (refl, h)

pub not_parts : (a : Bool) → not a ≡ true → a ≡ false
not_parts true h = absurd (false≢true h)
not_parts false h = refl

skip_on : (p : Progress) (mark : List ℕ) (mode later : Mode) (b : ℕ) (text : List ℕ)
    → effect_of mode b ≡ effects.Go later → Skips p mark later text → Skips p mark mode (b ∷ text)
unfolding progress_behind
skip_on p mark mode later b text e rest =
    ap (λ (q : Progress). progress_behind q text) (went p mode later mark b e) ∙ rest

bare_other : (b : ℕ) → (b == 34) ≡ false → (b == 39) ≡ false
    → not ((b == 62 || b == 47) || b == 60) ≡ true
    → effect_of modes.Inside b ≡ effects.Go modes.Inside
bare_other b d s n =
    let parts = or_parts (b == 62 || b == 47) (b == 60) (not_parts _ n) in
    let two = or_parts (b == 62) (b == 47) parts.0 in
    cond-false (b == 62) _ _ two.0 ∙ cond-false (b == 47) _ _ two.1 ∙ cond-false (b == 34) _ _ d
    ∙ cond-false (b == 39) _ _ s ∙ cond-false (b == 60) _ _ parts.1

bare_case : (p : Progress) (mark : List ℕ) (b : ℕ) (text : List ℕ) (d s : Bool) → (b == 34) ≡ d
    → (b == 39) ≡ s → IsSkipped p mark text
    → (if d then is_quoted_well (Some 34) text
    else if s then is_quoted_well (Some 39) text
    else not ((b == 62 || b == 47) || b == 60) && is_quoted_well None text) ≡ true
    → Skips p mark modes.Inside (b ∷ text)
bare_case p mark b text true s is_d is_s rest well =
    skip_on p mark modes.Inside modes.DoubleQuoted b text
    (ap (effect_of modes.Inside) (eqb-true b 34 is_d)) (rest.double well)
bare_case p mark b text false true is_d is_s rest well =
    skip_on p mark modes.Inside modes.SingleQuoted b text
    (ap (effect_of modes.Inside) (eqb-true b 39 is_s)) (rest.single well)
bare_case p mark b text false false is_d is_s rest well =
    let parts = and_parts (not ((b == 62 || b == 47) || b == 60)) (is_quoted_well None text) well in
    skip_on p mark modes.Inside modes.Inside b text (bare_other b is_d is_s parts.0)
    (rest.bare parts.1)

double_case : (p : Progress) (mark : List ℕ) (b : ℕ) (text : List ℕ) (d : Bool) → (b == 34) ≡ d
    → IsSkipped p mark text
    → (if d then is_quoted_well None text
    else not (b == 60) && is_quoted_well (Some 34) text) ≡ true
    → Skips p mark modes.DoubleQuoted (b ∷ text)
double_case p mark b text true is rest well =
    skip_on p mark modes.DoubleQuoted modes.Inside b text
    (ap (effect_of modes.DoubleQuoted) (eqb-true b 34 is)) (rest.bare well)
double_case p mark b text false is rest well =
    let parts = and_parts (not (b == 60)) (is_quoted_well (Some 34) text) well in
    skip_on p mark modes.DoubleQuoted modes.DoubleQuoted b text
    (cond-false (b == 34) _ _ is ∙ cond-false (b == 60) _ _ (not_parts _ parts.0))
    (rest.double parts.1)

single_case : (p : Progress) (mark : List ℕ) (b : ℕ) (text : List ℕ) (d : Bool) → (b == 39) ≡ d
    → IsSkipped p mark text
    → (if d then is_quoted_well None text
    else not (b == 60) && is_quoted_well (Some 39) text) ≡ true
    → Skips p mark modes.SingleQuoted (b ∷ text)
single_case p mark b text true is rest well =
    skip_on p mark modes.SingleQuoted modes.Inside b text
    (ap (effect_of modes.SingleQuoted) (eqb-true b 39 is)) (rest.bare well)
single_case p mark b text false is rest well =
    let parts = and_parts (not (b == 60)) (is_quoted_well (Some 39) text) well in
    skip_on p mark modes.SingleQuoted modes.SingleQuoted b text
    (cond-false (b == 39) _ _ is ∙ cond-false (b == 60) _ _ (not_parts _ parts.0))
    (rest.single parts.1)

skipped : (p : Progress) (mark text : List ℕ) → IsSkipped p mark text
unfolding progress_behind
skipped p mark [] = record {
  bare = λ well. refl;
  double = λ well. absurd (false≢true well);
  single = λ well. absurd (false≢true well);
}
skipped p mark (b ∷ text) =
    let rest = skipped p mark text in record {
      bare = λ well. bare_case p mark b text (b == 34) (b == 39) refl refl rest well;
      double = λ well. double_case p mark b text (b == 34) refl rest well;
      single = λ well. single_case p mark b text (b == 39) refl rest well;
    }

-- where a start tag was read up to its end
record HasAttributes (p : Progress) (mode : Mode) (name text : List ℕ) : Type 0 where
  last : Mode
  opens : effect_of last 62 ≡ effects.Open
  slash : effect_of last 47 ≡ effects.Go modes.Slash
  read : progress_behind (tagging p mode name) text ≡ tagging p last name

attributes : (p : Progress) (mode : Mode) (name text : List ℕ) → IsBehindName mode
    → are_attributes text ≡ true → HasAttributes p mode name text
unfolding progress_behind
attributes p mode name [] behind well = record {
  last = mode;
  opens = behind.opens;
  slash = behind.slash;
  read = refl;
}
attributes p mode name (b ∷ text) behind well =
    let parts = and_parts (is_xml_blank b) (is_quoted_well None text) well in record {
      last = modes.Inside;
      opens = refl;
      slash = refl;
      read = ap (λ (q : Progress). progress_behind q text)
          (went p mode modes.Inside name b (behind.blank b parts.0))
          ∙ (skipped p name text).bare parts.1;
    }

-- ---- whole tags

-- the reader at the end of a tag of this name
abbrev pub at_tag : MultistatusReader → List ℕ → MultistatusReader
at_tag r name = record r { mode = modes.Text; mark = name; ended = None }

ends_as : (p : Progress) (mode : Mode) (name : List ℕ) (effect : Effect) → effect_of mode 62 ≡ effect
    → stepped p mode name 62 ≡ reached p (after_effect (tagging p mode name).reader 62 effect)
unfolding one_on
ends_as p mode name effect e =
    ap (λ (x : Effect). reached p (after_effect (tagging p mode name).reader 62 x)) e

pub tag_begins : (p : Progress) (rest : List ℕ) → p.reader.mode ≡ modes.Text
    → progress_behind p (60 ∷ rest) ≡ progress_behind (tagging p modes.Tag []) rest
unfolding progress_behind one_on
tag_begins p rest at =
    ap (λ (m : Mode). progress_behind (reached p (after_effect (record (p.reader) { ended = None }) 60
    (effect_of m 60))) rest) at

pub start_reads : (p : Progress) (tag : Tag) (name : List ℕ) → IsTag tag → IsLocalName name
    → p.reader.mode ≡ modes.Text
    → progress_behind p (start_tag tag name) ≡ reached p (unmarked (element_begun (at_tag p.reader name)))
unfolding progress_behind
start_reads p tag name t l at =
    let n = start_name p tag.prefix name t.prefix t.short l in
    let a = attributes p n.mode name tag.attributes n.behind t.attributes in
    tag_begins p (qualified tag.prefix name ++ (tag.attributes ++ 62 ∷ [])) at
    ∙ then_rest (tagging p modes.Tag []) (tagging p n.mode name) (qualified tag.prefix name)
    (tag.attributes ++ 62 ∷ []) n.read
    ∙ then_rest (tagging p n.mode name) (tagging p a.last name) tag.attributes (62 ∷ []) a.read
    ∙ ends_as p a.last name effects.Open a.opens

pub empty_reads : (p : Progress) (tag : Tag) (name : List ℕ) → IsTag tag → IsLocalName name
    → p.reader.mode ≡ modes.Text
    → progress_behind p (empty_tag tag name)
    ≡ reached p (unmarked (done_with (element_begun (at_tag p.reader name))))
unfolding progress_behind
empty_reads p tag name t l at =
    let n = start_name p tag.prefix name t.prefix t.short l in
    let a = attributes p n.mode name tag.attributes n.behind t.attributes in
    tag_begins p (qualified tag.prefix name ++ (tag.attributes ++ 47 ∷ 62 ∷ [])) at
    ∙ then_rest (tagging p modes.Tag []) (tagging p n.mode name) (qualified tag.prefix name)
    (tag.attributes ++ 47 ∷ 62 ∷ []) n.read
    ∙ then_rest (tagging p n.mode name) (tagging p a.last name) tag.attributes (47 ∷ 62 ∷ []) a.read
    ∙ ap (λ (q : Progress). progress_behind q (62 ∷ [])) (went p a.last modes.Slash name 47 a.slash)
    ∙ ends_as p modes.Slash name effects.Empty refl

-- ---- end tags

record HasEndName (p : Progress) (text name : List ℕ) : Type 0 where
  mode : Mode
  ends : effect_of mode 62 ≡ effects.Close
  blank : (b : ℕ) → is_xml_blank b ≡ true → effect_of mode b ≡ effects.Go modes.CloseEnd
  read : progress_behind (tagging p modes.CloseName []) text ≡ tagging p mode name

end_name : (p : Progress) (prefix name : List ℕ) → list_all is_name_byte prefix ≡ true
    → length prefix ≤ 64 → IsLocalName name → HasEndName p (qualified prefix name) name
unfolding progress_behind
end_name p [] name pre short l = record {
  mode = modes.CloseName;
  ends = refl;
  blank = λ b is. cond-false (b == 58) _ _ (blank_is_not 58 b refl is) ∙ end_blank modes.CloseName b is;
  read = names p modes.CloseName [] name close_name_takes l.bytes (omega (arith, l.short));
}
end_name p (b ∷ prefix) name pre short l = record {
  mode = modes.CloseLocal;
  ends = refl;
  blank = λ c is. end_blank modes.CloseLocal c is;
  read = then_rest (tagging p modes.CloseName []) (tagging p modes.CloseName (b ∷ prefix)) (b ∷ prefix)
      (58 ∷ name) (names p modes.CloseName [] (b ∷ prefix) close_name_takes pre (omega arith))
      ∙ ap (λ (q : Progress). progress_behind q name)
      (renamed p modes.CloseName modes.CloseLocal (b ∷ prefix) 58 refl)
      ∙ names p modes.CloseLocal [] name close_local_takes l.bytes (omega (arith, l.short));
}

close_end_blank : (b : ℕ) → is_xml_blank b ≡ true
    → effect_of modes.CloseEnd b ≡ effects.Go modes.CloseEnd
close_end_blank b blank =
    cond-false (b == 62) _ _ (blank_is_not 62 b refl blank) ∙ cond-true (is_xml_blank b) _ _ blank

end_spaces : (p : Progress) (name text : List ℕ) → are_blank text ≡ true
    → progress_behind (tagging p modes.CloseEnd name) text ≡ tagging p modes.CloseEnd name
unfolding progress_behind
end_spaces p name [] all = refl
end_spaces p name (b ∷ text) all =
    let parts = and_parts (is_xml_blank b) (list_all is_xml_blank text) all in
    ap (λ (q : Progress). progress_behind q text)
    (went p modes.CloseEnd modes.CloseEnd name b (close_end_blank b parts.0))
    ∙ end_spaces p name text parts.1

record HasEndSpace (p : Progress) (mode : Mode) (name text : List ℕ) : Type 0 where
  last : Mode
  ends : effect_of last 62 ≡ effects.Close
  read : progress_behind (tagging p mode name) text ≡ tagging p last name

end_space : (p : Progress) (mode : Mode) (name text : List ℕ) → effect_of mode 62 ≡ effects.Close
    → ((b : ℕ) → is_xml_blank b ≡ true → effect_of mode b ≡ effects.Go modes.CloseEnd)
    → are_blank text ≡ true → HasEndSpace p mode name text
unfolding progress_behind
end_space p mode name [] ends blank all = record { last = mode; ends = ends; read = refl }
end_space p mode name (b ∷ text) ends blank all =
    let parts = and_parts (is_xml_blank b) (list_all is_xml_blank text) all in record {
      last = modes.CloseEnd;
      ends = refl;
      read = ap (λ (q : Progress). progress_behind q text)
          (went p mode modes.CloseEnd name b (blank b parts.0)) ∙ end_spaces p name text parts.1;
    }

pub end_reads : (p : Progress) (tag : Tag) (name : List ℕ) → IsTag tag → IsLocalName name
    → p.reader.mode ≡ modes.Text
    → progress_behind p (end_tag tag name) ≡ reached p (unmarked (done_with (at_tag p.reader name)))
unfolding progress_behind
end_reads p tag name t l at =
    let n = end_name p tag.prefix name t.prefix t.short l in
    let s = end_space p n.mode name tag.space n.ends n.blank t.space in
    tag_begins p (47 ∷ (qualified tag.prefix name ++ (tag.space ++ 62 ∷ []))) at
    ∙ ap (λ (q : Progress). progress_behind q (qualified tag.prefix name ++ (tag.space ++ 62 ∷ [])))
    (went p modes.Tag modes.CloseName [] 47 refl)
    ∙ then_rest (tagging p modes.CloseName []) (tagging p n.mode name) (qualified tag.prefix name)
    (tag.space ++ 62 ∷ []) n.read
    ∙ then_rest (tagging p n.mode name) (tagging p s.last name) tag.space (62 ∷ []) s.read
    ∙ ends_as p s.last name effects.Close s.ends

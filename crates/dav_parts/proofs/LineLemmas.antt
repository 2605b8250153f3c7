-- The lines of a listing, one after another.
use Rattle.std.proofs.Common.{◌≡◌, ℕ, ◌+◌, ◌*◌, ◌/◌, ◌<◌, arith, List, [], ◌∷◌, ◌++◌, length, get_or, take, drop, Bool, true, false, ◌==◌, Option, Some, None, IfNone, refl, sym, ap, subst, ◌∙◌, append_assoc}
use Rattle.std.specs.Prelude.{not, MatchOption}
use Rattle.std.proofs.lemmas.Bool.{false≢true, or_parts, or_right, eq-eqb}
use Rattle.std.proofs.lemmas.List.{append_cancel_left, take_at, drop_at, drop_more}
use Rattle.httpdate.specs.Date.{unix_secs, date_text}
use Rattle.httpdate.specs.declared.date.HttpDate.{HttpDate}
use Rattle.jop_base.specs.Paths.{file_name}
use Rattle.jop_base.specs.declared.dir.Dir.{Dir}
use Rattle.jop_base.proofs.PathTexts.{path_unique}
use Rattle.jop_target.specs.declared.reply.Entry.{Entry}
use Rattle.dav_parts.specs.Targets.{dir_target}
use Rattle.dav_parts.specs.Multistatus.{has_open, href_open, date_open, entry_close, ending, heading, folder_close, with_line, with_date, folder_lines, AreLines, AreListable, IsMultistatus, IsFileAt, IsLineOf, ComesAfter, ReadsLines, ReadsMultistatus}
use Rattle.dav_parts.proofs.PathLemmas.{open_append, name_opens_not}
use Rattle.dav_parts.proofs.DateLemmas.{date_long, same_secs}

-- what a missing value says, said otherwise
pub if_none : {A : Type 0} (o : Option A) (P Q : Type 0) → (P → Q) → IfNone o P → IfNone o Q
if_none (Some x) P Q f h = h
if_none None P Q f h = f h

pub none_by : {A : Type 0} (o : Option A) (P : Type 0) → IfNone o P → ((x : A) → o ≡ Some x → ⊥) → P
none_by (Some x) P h not = absurd (not x refl)
none_by None P h not = h

-- ---- writing

pub lines_more : (dir : Dir) (entries : List Entry) (i : ℕ) (entry : Entry) (date : HttpDate)
    (rest : List ℕ) → i < length entries → entry ≡ get_or entries i entry → unix_secs date
    ≡ entry.stamp / 1_000 → AreLines dir (drop (i + 1) entries) rest
    → AreLines dir (drop i entries) (with_line dir (file_name entry.path) (date_text date) rest)
lines_more dir entries i entry date rest inside is secs lines =
    let first = ap (λ (e : Entry). e ∷ drop (i + 1) entries) is
    ∙ sym (drop_more entries i entry inside) in
    subst (λ (es : List Entry). AreLines dir es (with_line dir (file_name entry.path)
    (date_text date) rest)) first (date, rest, secs, refl, lines)

-- ---- where a name ends

pub date_open_opens : (rest : List ℕ) → has_open (date_open ++ rest) ≡ true
unfolding date_open
date_open_opens rest = refl

pub date_open_first : (rest : List ℕ) → get_or (date_open ++ rest) 0 0 ≡ 60
unfolding date_open
date_open_first rest = refl

pub name_has_end : (text name rest : List ℕ) → has_open text ≡ false
    → text ≡ name ++ (date_open ++ rest) → ⊥
name_has_end text name rest none e = false≢true (sym none ∙ ap has_open e
    ∙ open_append name (date_open ++ rest) ∙ or_right (has_open name) (has_open (date_open ++ rest))
    (date_open_opens rest))

opens_at_once : (c : ℕ) (text r : List ℕ) → get_or r 0 0 ≡ 60 → r ≡ c ∷ text → (c == 60) ≡ true
opens_at_once c text r first e = eq-eqb c 60 (sym (ap (λ (t : List ℕ). get_or t 0 0) e) ∙ first)

pub cut_unique : (a b r q : List ℕ) → has_open a ≡ false → has_open b ≡ false → get_or r 0 0 ≡ 60
    → get_or q 0 0 ≡ 60 → a ++ r ≡ b ++ q → (a ≡ b) × (r ≡ q)
cut_unique [] [] r q ha hb hr hq e = (refl, e)
cut_unique [] (c ∷ b) r q ha hb hr hq e =
    absurd (false≢true (sym (or_parts (c == 60) (has_open b) hb).0
    ∙ opens_at_once c (b ++ q) r hr e))
cut_unique (c ∷ a) [] r q ha hb hr hq e =
    absurd (false≢true (sym (or_parts (c == 60) (has_open a) ha).0
    ∙ opens_at_once c (a ++ r) q hq (sym e)))
cut_unique (c ∷ a) (d ∷ b) r q ha hb hr hq e =
    let head : c ≡ d = ap (λ (t : List ℕ). get_or t 0 0) e in
    let tail : a ++ r ≡ b ++ q = ap (λ (t : List ℕ). drop 1 t) e in
    let rest = cut_unique a b r q (or_parts (c == 60) (has_open a) ha).1
    (or_parts (d == 60) (has_open b) hb).1 hr hq tail in
    (λ i. head i ∷ rest.0 i, rest.1)

pub same_line : (n t text : List ℕ) (dir : Dir) (entry : Entry) (rest : List ℕ)
    → text ≡ n ++ (date_open ++ t) → has_open n ≡ false → (h : IsFileAt dir entry text rest)
    → (n ≡ file_name entry.path) × (t ≡ date_text h.date ++ (entry_close ++ rest))
same_line n t text dir entry rest is none h =
    let cut = cut_unique n (file_name entry.path) (date_open ++ t)
    (with_date (date_text h.date) rest) none (name_opens_not entry.path h.path)
    (date_open_first t) (date_open_first (date_text h.date ++ (entry_close ++ rest))) (sym is
    ∙ h.line) in
    (cut.0, append_cancel_left date_open t (date_text h.date ++ (entry_close ++ rest)) cut.1)

-- ---- one file a line

pub file_unique : (dir : Dir) (e f : Entry) (text r q : List ℕ) → IsFileAt dir e text r
    → IsFileAt dir f text q → (e ≡ f) × (r ≡ q)
file_unique dir e f text r q h k =
    let dated = date_text h.date ++ (entry_close ++ r) in
    let cut = same_line (file_name e.path) dated text dir f q h.line (name_opens_not e.path h.path)
    k in
    let path = path_unique e.path f.path h.path k.path (h.inside ∙ sym k.inside) cut.0 in
    let date : date_text h.date ≡ date_text k.date =
    sym (take_at (date_text h.date) (entry_close ++ r) 29 (date_long h.date))
    ∙ ap (λ (t : List ℕ). take 29 t) cut.1 ∙ take_at (date_text k.date) (entry_close ++ q) 29
    (date_long k.date) in
    let closed : entry_close ++ r ≡ entry_close ++ q =
    sym (drop_at (date_text h.date) (entry_close ++ r) 29 (date_long h.date))
    ∙ ap (λ (t : List ℕ). drop 29 t) cut.1 ∙ drop_at (date_text k.date) (entry_close ++ q) 29
    (date_long k.date) in
    let stamp : e.stamp ≡ f.stamp = h.stamp
    ∙ ap (λ (s : ℕ). s * 1_000) (same_secs h.date k.date date) ∙ sym k.stamp in
    (λ i. record { path = path i; stamp = stamp i }, append_cancel_left entry_close r q closed)

pub behind_unique : (dir : Dir) (text a b : List ℕ) → text ≡ href_open ++ (dir_target dir ++ a)
    → text ≡ href_open ++ (dir_target dir ++ b) → a ≡ b
behind_unique dir text a b e f = append_cancel_left (dir_target dir) a b
    (append_cancel_left href_open (dir_target dir ++ a) (dir_target dir ++ b) (sym e ∙ f))

pub line_unique : (dir : Dir) (e f : Entry) (text r q : List ℕ) → IsLineOf dir e text r
    → IsLineOf dir f text q → (e ≡ f) × (r ≡ q)
line_unique dir e f text r q h k = file_unique dir e f h.0 r q h.2
    (subst (λ (t : List ℕ). IsFileAt dir f t q) (behind_unique dir text k.0 h.0 k.1 h.1) k.2)

-- ---- line by line

pub no_line : (dir : Dir) (before : Option Entry) (rest : List ℕ) → (rest ≡ ending → ⊥)
    → ((entry : Entry) (r : List ℕ) → IsLineOf dir entry rest r → ⊥) → (more : List Entry)
    → ReadsLines dir before more rest → ⊥
no_line dir before rest goes none [] h = goes h
no_line dir before rest goes none (e ∷ more) h = none e h.0 h.1

pub no_follower : (dir : Dir) (before : Option Entry) (rest : List ℕ) (e : Entry) (r : List ℕ)
    → (rest ≡ ending → ⊥) → IsLineOf dir e rest r → (ComesAfter before e → ⊥) → (more : List Entry)
    → ReadsLines dir before more rest → ⊥
no_follower dir before rest e r goes line not [] h = goes h
no_follower dir before rest e r goes line not (f ∷ more) h =
    not (subst (λ (x : Entry). ComesAfter before x) (line_unique dir f e rest h.0 r h.1 line).0 h.2)

pub one_line : (dir : Dir) (before : Option Entry) (rest : List ℕ) (e : Entry) (r : List ℕ)
    → (rest ≡ ending → ⊥) → IsLineOf dir e rest r → (more : List Entry)
    → ReadsLines dir before more rest → (less : List Entry) × (more ≡ e ∷ less)
    × ReadsLines dir (Some e) less r
one_line dir before rest e r goes line [] h = absurd (goes h)
one_line dir before rest e r goes line (f ∷ more) h =
    let same = line_unique dir f e rest h.0 r h.1 line in
    let moved = subst (λ (x : Entry). ReadsLines dir (Some x) more h.0) same.0 h.3 in (
      more,
      ap (λ (x : Entry). x ∷ more) same.0,
      subst (λ (t : List ℕ).
          ReadsLines dir (Some e) more t) same.1 moved,
    )

pub only_more : (dir : Dir) (before : Option Entry) (entries now all : List Entry) (rest : List ℕ)
    (e : Entry) (r : List ℕ) → now ≡ entries ++ e ∷ [] → (rest ≡ ending → ⊥) → IsLineOf dir e rest r
    → (more : List Entry) → all ≡ entries ++ more → ReadsLines dir before more rest
    → (less : List Entry) × (all ≡ now ++ less) × ReadsLines dir (Some e) less r
only_more dir before entries now all rest e r now-is goes line more all-is h =
    let step = one_line dir before rest e r goes line more h in (
      step.0,
      all-is ∙ ap (λ (es : List Entry). entries ++ es) step.1
          ∙ sym (ap (λ (es : List Entry). es ++ step.0) now-is
          ∙ append_assoc entries (e ∷ []) step.0),
      step.2,
    )

-- ---- what comes after fixed parts

pub same_front : (a b x y text t u : List ℕ) → x ≡ a → y ≡ b → text ≡ x ++ (y ++ t)
    → text ≡ a ++ (b ++ u) → t ≡ u
same_front a b x y text t u x-is y-is e f =
    let whole : a ++ (b ++ t) ≡ a ++ (b ++ u) = sym (e ∙ (λ i. x-is i ++ (y-is i ++ t))) ∙ f in
    append_cancel_left b t u (append_cancel_left a (b ++ t) (b ++ u) whole)

pub folder_unique : (dir : Dir) (a b : List ℕ) → folder_lines dir a ≡ folder_lines dir b → a ≡ b
folder_unique dir a b e = append_cancel_left folder_close a b (append_cancel_left (dir_target dir)
    (folder_close ++ a) (folder_close ++ b) (append_cancel_left href_open _ _
    (append_cancel_left heading _ _ e)))

pub read_whole : (dir : Dir) (body lines : List ℕ) (found : Option (List Entry))
    → body ≡ folder_lines dir lines → MatchOption found ((entries : List Entry)
    → ReadsLines dir None entries lines → ⊥) (λ entries. ReadsLines dir None entries lines)
    → MatchOption found ((entries : List Entry) → ReadsMultistatus dir entries body → ⊥) (λ entries.
    ReadsMultistatus dir entries body)
read_whole dir body lines None e h = λ entries k.
    h entries (subst (λ (t : List ℕ). ReadsLines dir None entries t) (folder_unique dir k.0 lines
    (sym k.1 ∙ e)) k.2)
read_whole dir body lines (Some entries) e h = (lines, e, h)

pub not_false : (b : Bool) → not b ≡ false → b ≡ true
not_false true e = refl
not_false false e = sym e

-- ---- what is written is read

lines_read : (dir : Dir) (before : Option Entry) (entries : List Entry) (text : List ℕ)
    → AreListable dir before entries → AreLines dir entries text
    → ReadsLines dir before entries text
lines_read dir before [] text ok h = h
lines_read dir before (e ∷ entries) text ok h =
    let date = h.0 in
    let rest = h.1 in
    let secs : unix_secs date ≡ e.stamp / 1_000 = h.2 in
    let file : IsFileAt dir e (file_name e.path ++ with_date (date_text date) rest) rest = record {
      date = date;
      stamp = ok.0 ∙ ap (λ (s : ℕ). s * 1_000) (sym secs);
      line = λ i. file_name e.path ++ with_date (date_text date) rest;
      inside = ok.1;
      path = ok.2;
    } in (
      rest,
      (file_name e.path ++ with_date (date_text date) rest, h.3, file),
      ok.3,
      lines_read dir
          (Some e) entries rest ok.4 h.4,
    )

pub body_read : (dir : Dir) (entries : List Entry) (text : List ℕ) → AreListable dir None entries
    → IsMultistatus dir entries text → ReadsMultistatus dir entries text
body_read dir entries text ok h = (h.0, h.1, lines_read dir None entries h.0 ok h.2)

-- ---- a body is read as one list of files

ending_opens : (rest : List ℕ) → ending ≡ href_open ++ rest → ⊥
unfolding ending href_open
ending_opens rest e = let second : 47 ≡ 100 = ap (λ (t : List ℕ). get_or t 1 0) e in
    omega (arith, second)

lines_unique : (dir : Dir) (before : Option Entry) (es fs : List Entry) (text : List ℕ)
    → ReadsLines dir before es text → ReadsLines dir before fs text → es ≡ fs
lines_unique dir before [] [] text h k = refl
lines_unique dir before [] (f ∷ fs) text h k = absurd (ending_opens _ (sym h ∙ k.1.1))
lines_unique dir before (e ∷ es) [] text h k = absurd (ending_opens _ (sym k ∙ h.1.1))
lines_unique dir before (e ∷ es) (f ∷ fs) text h k =
    let same = line_unique dir f e text k.0 h.0 k.1 h.1 in
    let there = subst (λ (x : Entry). ReadsLines dir (Some x) fs k.0) same.0 k.3 in
    let here = subst (λ (t : List ℕ). ReadsLines dir (Some e) fs t) same.1 there in
    let rest = lines_unique dir (Some e) es fs h.0 h.3 here in
    λ i. sym same.0 i ∷ rest i

pub files_unique : (dir : Dir) (es fs : List Entry) (body : List ℕ) → ReadsMultistatus dir es body
    → ReadsMultistatus dir fs body → es ≡ fs
files_unique dir es fs body h k = lines_unique dir None es fs h.0 h.2
    (subst (λ (t : List ℕ). ReadsLines dir None fs t) (folder_unique dir k.0 h.0 (sym k.1 ∙ h.1))
    k.2)

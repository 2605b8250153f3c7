-- The lines of the folder itself, with which the body that lists it begins.
use Rattle.std.proofs.Common.{◌≡◌, ℕ, ◌≤◌, List, [], ◌∷◌, ◌++◌, length, get_or, drop, false, refl, sym, ap, ◌∙◌, arith, append_assoc}
use Rattle.std.specs.Prelude.{codes}
use Rattle.std.proofs.lemmas.List.{append_cancel_left, length-append}
use Rattle.jop_base.specs.declared.dir.Dir.{Dir}
use Rattle.dav_parts.specs.Targets.{dir_target}
use Rattle.dav_parts.specs.Multistatus.{heading, href_open, folder_close, folder_lines}
use Rattle.reply_reader.specs.Layouts.{HasNoFront, has_feed}
use Rattle.reply_reader.proofs.LineFeeds.{feed_behind}
use Rattle.reply_reader.proofs.FileLines.{href_long, target_short}

-- ---- they end with a line feed

abbrev close_part : List ℕ
close_part =
    codes "</d:href><d:propstat><d:prop><d:resourcetype><d:collection/></d:resourcetype>"
    ++ codes "</d:prop><d:status>HTTP/1.1 200 OK</d:status></d:propstat></d:response>"

close_ends : folder_close ≡ close_part ++ 10 ∷ []
unfolding folder_close
close_ends = refl

-- all of them but their last line feed
abbrev front_part : Dir → List ℕ
front_part dir = heading ++ (href_open ++ (dir_target dir ++ close_part))

front_text : (dir : Dir) (rest : List ℕ) → folder_lines dir rest ≡ front_part dir ++ 10 ∷ rest
front_text dir rest =
    let closed : folder_close ++ rest ≡ close_part ++ 10 ∷ rest =
    ap (λ (t : List ℕ). t ++ rest) close_ends ∙ append_assoc close_part (10 ∷ []) rest in
    sym (append_assoc heading (href_open ++ (dir_target dir ++ close_part)) (10 ∷ rest)
    ∙ ap (λ (t : List ℕ). heading ++ t)
    (append_assoc href_open (dir_target dir ++ close_part) (10 ∷ rest)
    ∙ ap (λ (t : List ℕ). href_open ++ t) (append_assoc (dir_target dir) close_part (10 ∷ rest)
    ∙ ap (λ (t : List ℕ). dir_target dir ++ t) (sym closed))))

front_whole : (dir : Dir) (rest : List ℕ) → folder_lines dir rest ≡ folder_lines dir [] ++ rest
front_whole dir rest =
    front_text dir rest ∙ sym (append_assoc (front_part dir) (10 ∷ []) rest)
    ∙ ap (λ (t : List ℕ). t ++ rest) (sym (front_text dir []))

-- ---- they are short

heading_long : length heading ≡ 70
unfolding heading
heading_long = refl

front_short : (dir : Dir) → length (folder_lines dir []) ≤ 250
front_short dir =
    let a = length-append heading (href_open ++ (dir_target dir ++ close_part)) in
    let b = length-append href_open (dir_target dir ++ close_part) in
    let c = length-append (dir_target dir) close_part in
    let d = length-append (front_part dir) (10 ∷ []) in
    omega (
      arith,
      a,
      b,
      c,
      d,
      ap (λ (t : List ℕ). length t) (front_text dir []),
      heading_long,
      href_long,
      target_short dir,
    )

-- a text that is longer than another, with which one text begins as with this, begins with it
longer_begins : (a b r q : List ℕ) → a ++ r ≡ b ++ q → length b ≤ length a
    → (ys : List ℕ) × (a ≡ b ++ ys)
longer_begins a [] r q e long = (a, refl)
longer_begins [] (d ∷ b) r q e long = absurd (omega (arith, long))
longer_begins (c ∷ a) (d ∷ b) r q e long =
    let head : c ≡ d = ap (λ (t : List ℕ). get_or t 0 0) e in
    let rest = longer_begins a b r q (ap (λ (t : List ℕ). drop 1 t) e) (omega (arith, long)) in
    (rest.0, λ i. head i ∷ rest.1 i)

-- a long text that doesn't begin with them can't go on so that it does
pub long_no_front : (dir : Dir) (text rest : List ℕ) → HasNoFront dir text → 512 ≤ length text
    → HasNoFront dir (text ++ rest)
long_no_front dir text rest none long more e =
    let begins = longer_begins text (folder_lines dir []) rest more (e ∙ front_whole dir more)
    (omega (arith, long, front_short dir)) in
    none begins.0 (begins.1 ∙ sym (front_whole dir begins.0))

-- ---- where they end

-- a part of a line completes them not
pub part_no_front : (dir : Dir) (line part : List ℕ) → HasNoFront dir line → has_feed part ≡ false
    → HasNoFront dir (line ++ part)
part_no_front dir line part none feeds rest e =
    let cut = feed_behind line part (front_part dir) rest feeds (e ∙ front_text dir rest) in
    none cut.0 (cut.1 ∙ sym (front_text dir cut.0))

-- what stands before the last byte of what goes on behind a text
before_last : (a f xs : List ℕ) (b x : ℕ) → a ++ b ∷ [] ≡ f ++ x ∷ xs
    → (ys : List ℕ) × (a ≡ f ++ ys)
before_last a [] xs b x e = (a, refl)
before_last [] (d ∷ f) xs b x e =
    absurd (omega (arith, ap (λ (t : List ℕ). length t) e, length-append f (x ∷ xs)))
before_last (c ∷ a) (d ∷ f) xs b x e =
    let head : c ≡ d = ap (λ (t : List ℕ). get_or t 0 0) e in
    let rest = before_last a f xs b x (ap (λ (t : List ℕ). drop 1 t) e) in
    (rest.0, λ i. head i ∷ rest.1 i)

-- the line that completes them is their last one
pub front_ends : (dir : Dir) (line part rest : List ℕ) → HasNoFront dir line
    → has_feed part ≡ false → line ++ (part ++ 10 ∷ []) ≡ folder_lines dir rest → rest ≡ []
front_ends dir line part [] none feeds e = refl
front_ends dir line part (x ∷ xs) none feeds e =
    let cut = before_last (line ++ part) (folder_lines dir []) xs 10 x
    (append_assoc line part (10 ∷ []) ∙ e ∙ front_whole dir (x ∷ xs)) in
    absurd (part_no_front dir line part none feeds cut.0 (cut.1 ∙ sym (front_whole dir cut.0)))

-- what follows them once they are complete
pub front_goes_on : (dir : Dir) (line part rest more : List ℕ) → HasNoFront dir line
    → has_feed part ≡ false → line ++ (part ++ 10 ∷ []) ≡ folder_lines dir more
    → line ++ ((part ++ 10 ∷ []) ++ rest) ≡ folder_lines dir rest
front_goes_on dir line part rest more none feeds e =
    sym (append_assoc line (part ++ 10 ∷ []) rest)
    ∙ ap (λ (t : List ℕ). t ++ rest)
    (e ∙ ap (λ (t : List ℕ). folder_lines dir t) (front_ends dir line part more none feeds e))
    ∙ sym (front_whole dir rest)

pub front_alone : (dir : Dir) (one other : List ℕ)
    → folder_lines dir one ≡ folder_lines dir other → one ≡ other
front_alone dir one other e = append_cancel_left (folder_lines dir []) one other
    (sym (front_whole dir one) ∙ e ∙ front_whole dir other)

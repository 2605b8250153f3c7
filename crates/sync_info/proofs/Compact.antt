-- The compact text of a sound value without floats is read as that value.
use Rattle.std.proofs.Common.{◌≡◌, ℕ, ◌≤◌, pos, negsuc, List, [], Some, option_map, option_and_then, Greater, false, refl, sym, ap, ◌∙◌, subst, arith, append-nil}
use Rattle.std.proofs.lemmas.Bool.{or_parts}
use Rattle.std.proofs.lemmas.Cmp.{nat_list_cmp_total}
use Rattle.std.specs.Cmp.Lexicographic.{slice_cmp}
use Rattle.std.specs.Ordering.{nat_cmp, ordering_reverse}
use Rattle.json.specs.Json as json
use Rattle.json.specs.Lex.{tokens}
use Rattle.json.specs.Print.{IsNumber}
use Rattle.json.specs.Tree as tree
use Rattle.json.proofs.Printed.Decimals.{IsNumber-decimal, IsNumber-signed_decimal}
use Rattle.json.proofs.Printed.Tokens.{tokens-print}
use Rattle.json.proofs.Printed.Trees.{value-json_tokens, ArePrintable-json_tokens}
use Rattle.serde_json.specs.Data.{Num, unsigned, negative, float, Data, null, boolean, number, string, array, object, Items, no_items, item, Members, no_members, member, put, depth, items_depth, members_depth}
use Rattle.serde_json.specs.Read.{number_of, of_json, of_items, of_members, max_depth, read}
use Rattle.serde_json.specs.Written.{number_text, outline, items_outline, members_outline, has_float, items_have_float, members_have_float, compact_text}
use Rattle.serde_json.proofs.Numbers.{number_of-decimal, number_of-negative}
use Rattle.serde_json.proofs.Texts.{print-outline}
use Rattle.sync_info.proofs.Sound.{IsSoundNumber, IsBelow, IsBefore, IsSound, AreSoundItems, AreSoundMembers}

-- ---- members behind others

abbrev join : Members → Members → Members
join no_members ms = ms
join (member k d done) ms = member k d (join done ms)

join-none : (ms : Members) → join ms no_members ≡ ms
join-none no_members = refl
join-none (member k d ms) = ap (member k d) (join-none ms)

join-one : (done : Members) (k : List ℕ) (d : Data) (ms : Members)
    → join (join done (member k d no_members)) ms ≡ join done (member k d ms)
join-one no_members k d ms = refl
join-one (member l e done) k d ms = ap (member l e) (join-one done k d ms)

behind : (done ms : Members) → AreSoundMembers (join done ms) → AreSoundMembers ms
behind no_members ms h = h
behind (member k d done) ms h = behind done ms h.2

below_there : (first : List ℕ) (done : Members) (k : List ℕ) (d : Data) (ms : Members)
    → IsBefore first (join done (member k d ms)) → IsBelow first k
below_there first no_members k d ms h = h.0
below_there first (member l e done) k d ms h = below_there first done k d ms h.1

-- a name behind all others goes last
put_behind : (done : Members) (k : List ℕ) (d : Data) (ms : Members)
    → AreSoundMembers (join done (member k d ms))
    → put k d done ≡ join done (member k d no_members)
put_behind no_members k d ms h = refl
put_behind (member l e done) k d ms h =
    let above : slice_cmp nat_cmp k l ≡ Greater =
    nat_list_cmp_total.antisymm k l ∙ ap ordering_reverse (below_there l done k d ms h.1) in
    rw above (ap (member l e) (put_behind done k d ms h.2))

-- ---- the outline of a value is that value

read_number : (n : Num) → IsSoundNumber n → has_float (number n) ≡ false
    → (number_of (number_text n) ≡ Some n) × IsNumber (number_text n)
read_number (unsigned n) h whole = (number_of-decimal n h, IsNumber-decimal n h)
read_number (negative (pos n)) h whole = absurd h
read_number (negative (negsuc n)) h whole =
    (number_of-negative n h, IsNumber-signed_decimal (negsuc n) h)
read_number (float x) h whole = absurd (cc)

mutual
  of_json-outline : (d : Data) → IsSound d → has_float d ≡ false → of_json (outline d) ≡ Some d
  of_json-outline null h whole = refl
  of_json-outline (boolean b) h whole = refl
  of_json-outline (number n) h whole = ap (option_map number) (read_number n h whole).0
  of_json-outline (string s) h whole = refl
  of_json-outline (array ds) h whole = ap (option_map array) (of_items-outline ds h whole)
  of_json-outline (object ms) h whole =
      ap (option_map object) (of_members-outline ms no_members h whole)

  of_items-outline : (ds : Items) → AreSoundItems ds → items_have_float ds ≡ false
      → of_items (items_outline ds) ≡ Some ds
  of_items-outline no_items h whole = refl
  of_items-outline (item d ds) h whole =
      let parts = or_parts (has_float d) _ whole in
      ap (option_and_then (λ e. option_map (item e) (of_items (items_outline ds))))
      (of_json-outline d h.0 parts.0)
      ∙ ap (option_map (item d)) (of_items-outline ds h.1 parts.1)

  of_members-outline : (ms done : Members) → AreSoundMembers (join done ms)
      → members_have_float ms ≡ false
      → of_members (members_outline ms) done ≡ Some (join done ms)
  of_members-outline no_members done h whole = ap Some (sym (join-none done))
  of_members-outline (member k d ms) done h whole =
      let parts = or_parts (has_float d) _ whole in
      let one = join-one done k d ms in
      ap (option_and_then (λ e. of_members (members_outline ms) (put k e done)))
      (of_json-outline d (behind done (member k d ms) h).0 parts.0)
      ∙ ap (of_members (members_outline ms)) (put_behind done k d ms h)
      ∙ of_members-outline ms (join done (member k d no_members))
      (subst AreSoundMembers (sym one) h) parts.1
      ∙ ap Some one

mutual
  numbers-outline : (d : Data) → IsSound d → has_float d ≡ false → tree.HasNumbers (outline d)
  numbers-outline null h whole = tt
  numbers-outline (boolean b) h whole = tt
  numbers-outline (number n) h whole = (read_number n h whole).1
  numbers-outline (string s) h whole = tt
  numbers-outline (array ds) h whole = numbers-items ds h whole
  numbers-outline (object ms) h whole = numbers-members ms h whole

  numbers-items : (ds : Items) → AreSoundItems ds → items_have_float ds ≡ false
      → tree.ItemsHaveNumbers (items_outline ds)
  numbers-items no_items h whole = tt
  numbers-items (item d ds) h whole =
      let parts = or_parts (has_float d) _ whole in
      (numbers-outline d h.0 parts.0, numbers-items ds h.1 parts.1)

  numbers-members : (ms : Members) → AreSoundMembers ms → members_have_float ms ≡ false
      → tree.MembersHaveNumbers (members_outline ms)
  numbers-members no_members h whole = tt
  numbers-members (member k d ms) h whole =
      let parts = or_parts (has_float d) _ whole in
      (numbers-outline d h.0 parts.0, numbers-members ms h.2 parts.1)

mutual
  depth-outline : (d : Data) → tree.depth (outline d) ≤ depth d
  depth-outline null = omega arith
  depth-outline (boolean b) = omega arith
  depth-outline (number n) = omega arith
  depth-outline (string s) = omega arith
  depth-outline (array ds) = omega (arith, depth-items ds)
  depth-outline (object ms) = omega (arith, depth-members ms)

  depth-items : (ds : Items) → tree.items_depth (items_outline ds) ≤ items_depth ds
  depth-items no_items = omega arith
  depth-items (item d ds) = omega (arith, depth-outline d, depth-items ds)

  depth-members : (ms : Members) → tree.members_depth (members_outline ms) ≤ members_depth ms
  depth-members no_members = omega arith
  depth-members (member k d ms) = omega (arith, depth-outline d, depth-members ms)

-- ---- the text

tokens-compact_text : (d : Data) → IsSound d → has_float d ≡ false
    → tokens (compact_text d) ≡ tree.json_tokens (outline d)
tokens-compact_text d sound whole =
    ap tokens (sym (print-outline d))
    ∙ tokens-print (tree.json_tokens (outline d))
    (ArePrintable-json_tokens (outline d) (numbers-outline d sound whole))

pub read-compact_text : (d : Data) → IsSound d → has_float d ≡ false → depth d ≤ max_depth
    → read (compact_text d) ≡ Some d
read-compact_text d sound whole shallow =
    let ts = tree.json_tokens (outline d) in
    let same = tokens-compact_text d sound whole ∙ sym (append-nil ts) in
    ap (λ o. option_and_then of_json (option_and_then (λ p. json.if_last p.0 p.1) o))
    (ap (json.value max_depth) same
    ∙ value-json_tokens (outline d) max_depth [] (omega (arith, depth-outline d)))
    ∙ of_json-outline d sound whole

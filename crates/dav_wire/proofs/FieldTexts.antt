-- Texts of visible characters, and fields that have them as values.
use Rattle.std.proofs.Common.{◌≡◌, ℕ, zero, suc, ◌+◌, ◌-◌, ◌<◌, ◌≤◌, List, [], ◌∷◌, ◌++◌, length, get_or, reverse, true, false, refl, ap, ◌∙◌, arith}
use Rattle.std.specs.Prelude.{codes, decimal, ◌^◌, IsTrue}
use Rattle.std.specs.Char.{is_ascii_digit}
use Rattle.std.specs.List.{list_all}
use Rattle.std.specs.Str.{IsAscii}
use Rattle.std.proofs.lemmas.Bool.{and_from, and_parts, cond-false}
use Rattle.std.proofs.lemmas.Bool.Decides.{nat_tests}
use Rattle.std.proofs.lemmas.Fmt.{length-decimal-le}
use Rattle.std.proofs.lemmas.List.{length-append, get_or-reverse, reverse-reverse, length-reverse}
use Rattle.std.proofs.lemmas.List.Elements.{All-cons, All-nil}
use Rattle.std.proofs.lemmas.List.Sums.{AllPass-from_list_all}
use Rattle.httparse.specs.Grammar.{is_token_byte, is_uri_byte, is_value_byte, is_ows, skip_ows, trim_ows, AllPass, IsToken, crlf, Field, IsField}
use Rattle.jop_base.specs.Paths.{IsPath, dir_prefix, path_text}
use Rattle.jop_base.specs.declared.dir.Dir.{Dir}
use Rattle.jop_base.specs.declared.path.Path.{Path}
use Rattle.jop_base.specs.declared.path.Path.TheVariants.{Blob}
use Rattle.jop_target.specs.declared.call.Call.{Call}
use Rattle.jop_target.specs.declared.call.Call.TheVariants as calls
use Rattle.dav_parts.specs.Targets.{path_target, dir_target, target_of}
use Rattle.dav_wire.specs.Requests.{length_lines, HasIds}
use Rattle.dav_wire.specs.RequestBack.{is_visible}
use Rattle.jop_base.proofs.DecimalLaws.{decimal_digits}
use Rattle.jop_base.proofs.PathTexts.{is_plain, plain_so, prefix_plain, text_plain}

-- ---- visible characters

plain_visible : (b : ℕ) → is_plain b ≡ true → is_visible b ≡ true
plain_visible b h = grind (arith, nat_tests)

path_visible : (path : Path) → IsPath path → list_all is_visible (path_target path) ≡ true
path_visible path h = plain_so is_visible plain_visible (path_text path) (text_plain path h)

dir_visible : (dir : Dir) → list_all is_visible (dir_target dir) ≡ true
dir_visible dir = plain_so is_visible plain_visible (dir_prefix dir) (prefix_plain dir)

pub target_visible : (call : Call) → HasIds call → list_all is_visible (target_of call) ≡ true
target_visible (calls.List dir) h = dir_visible dir
target_visible (calls.Get path) h = path_visible path h
target_visible (calls.Put path content) h = path_visible path h
target_visible (calls.Delete path) h = path_visible path h
target_visible (calls.MakeDir dir) h = dir_visible dir
target_visible (calls.GetBlob id) h = path_visible (Blob id) h
target_visible (calls.PutBlob id len) h = path_visible (Blob id) h

pub uri_visible : (xs : List ℕ) → list_all is_visible xs ≡ true → AllPass is_uri_byte xs
uri_visible [] h = All-nil (λ b. IsTrue (is_uri_byte b))
uri_visible (b ∷ xs) h =
    let p = and_parts (is_visible b) (list_all is_visible xs) h in
    let first = p.0 in
    All-cons (λ c. IsTrue (is_uri_byte c)) b xs (grind (arith, nat_tests)) (uri_visible xs p.1)

pub value_visible : (xs : List ℕ) → list_all is_visible xs ≡ true → AllPass is_value_byte xs
value_visible [] h = All-nil (λ b. IsTrue (is_value_byte b))
value_visible (b ∷ xs) h =
    let p = and_parts (is_visible b) (list_all is_visible xs) h in
    All-cons (λ c. IsTrue (is_value_byte c)) b xs (one b p.0) (value_visible xs p.1)
  where
    one : (b : ℕ) → is_visible b ≡ true → is_value_byte b ≡ true
    one b h = grind (arith, nat_tests)

pub ascii_visible : (xs : List ℕ) → list_all is_visible xs ≡ true → IsAscii xs
ascii_visible [] h i = omega arith
ascii_visible (b ∷ xs) h zero = let p = and_parts (is_visible b) (list_all is_visible xs) h in
    let first = p.0 in grind (arith, nat_tests)
ascii_visible (b ∷ xs) h (suc i) = ascii_visible xs (and_parts (is_visible b)
    (list_all is_visible xs) h).1 i

-- ---- the space before a value is trimmed

pub skip_first : (xs : List ℕ) → (0 < length xs → is_ows (get_or xs 0 0) ≡ false) → skip_ows xs ≡ xs
skip_first [] h = refl
skip_first (b ∷ xs) h = cond-false (is_ows b) (skip_ows xs) (b ∷ xs) (h (omega arith))

pub not_ows : (b : ℕ) → is_visible b ≡ true → is_ows b ≡ false
not_ows b h = grind (arith, nat_tests)

pub trimmed : (xs : List ℕ) → list_all is_visible xs ≡ true → trim_ows (32 ∷ xs) ≡ xs
unfolding trim_ows
trimmed xs h =
    let each = AllPass-from_list_all is_visible xs h in
    let front : skip_ows xs ≡ xs = skip_first xs (λ some. not_ows (get_or xs 0 0)
    (each 0 0 some)) in
    let back : skip_ows (reverse xs) ≡ reverse xs = skip_first (reverse xs) (λ some.
    let long : 0 < length xs = omega (arith, some, length-reverse xs) in
    ap is_ows (get_or-reverse xs 0 0 long) ∙ not_ows (get_or xs (length xs - 1 - 0) 0)
    (each (length xs - 1 - 0) 0 (omega (arith, long)))) in
    ap (λ (t : List ℕ). reverse (skip_ows (reverse t))) front ∙ ap reverse back ∙ reverse-reverse xs

pub digits_are_visible : (ds : List ℕ) → list_all is_ascii_digit ds ≡ true → list_all is_visible ds
    ≡ true
digits_are_visible [] h = refl
digits_are_visible (d ∷ ds) h =
    let p = and_parts (is_ascii_digit d) (list_all is_ascii_digit ds) h in
    let first = p.0 in
    and_from (is_visible d) (list_all is_visible ds) (grind (arith, nat_tests))
    (digits_are_visible ds p.1)

-- ---- one field

unfoldable pub field : List ℕ → List ℕ → Field
field name value = record { name = name; raw = 32 ∷ value; end = crlf }

pub length_named : IsToken (codes "Content-Length")
unfolding is_token_byte
length_named = (omega arith, AllPass-from_list_all is_token_byte (codes "Content-Length") refl)

pub field_fits : (name value : List ℕ) → IsToken name → list_all is_visible value ≡ true
    → IsField (field name value)
unfolding field
field_fits name value named h = record {
  name = named;
  raw =
      All-cons (λ b. IsTrue (is_value_byte b)) 32 value refl (value_visible value h);
}

pub decimal_visible : (n : ℕ) → n < 2 ^ 64 → list_all is_visible (decimal n) ≡ true
decimal_visible n small = digits_are_visible (decimal n) (decimal_digits n small)

pub length_short : (count : ℕ) → count < 2 ^ 64 → length (length_lines count) ≤ 40
unfolding length_lines
length_short count small = omega (
  arith,
  length-append (decimal count) (codes "\r\n\r\n"),
  length-decimal-le 20 count (omega arith) (omega arith) small,
)

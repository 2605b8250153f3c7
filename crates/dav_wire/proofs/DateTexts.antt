-- The text of a date as the value of a field.
use Rattle.std.proofs.Common.{◌≡◌, ℕ, zero, suc, ◌+◌, ◌-◌, ◌/◌, ◌%◌, ◌<◌, ◌≤◌, List, [], ◌∷◌, ◌++◌, length, get_or, reverse, Bool, true, false, cond, ◌==◌, Option, Some, None, refl, ap, ◌∙◌, arith, inl}
use Rattle.std.specs.Prelude.{codes, IsTrue, ◌||◌, option_and_then}
use Rattle.std.specs.List.{list_all}
use Rattle.std.proofs.lemmas.Bool.{and_from, and_parts, cond-true}
use Rattle.std.proofs.lemmas.Bool.Decides.{nat_tests}
use Rattle.std.proofs.lemmas.List.{length-append, get_or-reverse, reverse-reverse, get_or_append_left, get_or-append-add}
use Rattle.std.proofs.lemmas.List.Elements.{All-cons, All-nil}
use Rattle.httparse.specs.Grammar.{is_value_byte, is_ows, skip_ows, trim_ows, AllPass}
use Rattle.httpdate.specs.Date.{unix_secs, date_text, parse_secs, valid_secs}
use Rattle.httpdate.specs.Text.{day_name, month_name, two_digits, four_digits, time_of_day}
use Rattle.httpdate.specs.Valid.{IsValid, is_valid, parts_secs}
use Rattle.httpdate.specs.declared.date.HttpDate.{HttpDate}
use Rattle.httpdate.specs.declared.parts.Parts.{Parts}
use Rattle.httpdate.specs.Calendar.{is_leap_year}
use Rattle.httpdate.proofs.FormatLemmas.{parse_complete, imf_fixdate_grouped}
use Rattle.httpdate.proofs.ValidLemmas.{is_valid_complete}
use Rattle.dav_parts.proofs.DateLemmas.{date_long}
use Rattle.dav_wire.proofs.FieldTexts.{skip_first}

-- ---- its bytes

-- each byte may stand in a field's value
pub record IsValue (text : List ℕ) : Type 0 where
  pub pass : list_all is_value_byte text ≡ true

joined : {s t : List ℕ} → IsValue s → IsValue t → IsValue (s ++ t)
joined {s} {t} h k = record { pass = go s h.pass }
  where
    go : (s : List ℕ) → list_all is_value_byte s ≡ true → list_all is_value_byte (s ++ t) ≡ true
    go [] all = k.pass
    go (b ∷ s) all =
        let p = and_parts (is_value_byte b) (list_all is_value_byte s) all in
        and_from (is_value_byte b) (list_all is_value_byte (s ++ t)) p.0 (go s p.1)

pub values_pass : (xs : List ℕ) → list_all is_value_byte xs ≡ true → AllPass is_value_byte xs
values_pass [] h = All-nil (λ b. IsTrue (is_value_byte b))
values_pass (b ∷ xs) h =
    let p = and_parts (is_value_byte b) (list_all is_value_byte xs) h in
    All-cons (λ c. IsTrue (is_value_byte c)) b xs p.0 (values_pass xs p.1)

digit_value : (k : ℕ) → k ≤ 9 → is_value_byte (48 + k) ≡ true
digit_value k h = grind (arith, nat_tests)

two_values : (n : ℕ) → n < 100 → IsValue (two_digits n)
two_values n h = record {
  pass = and_from (is_value_byte (48 + n / 10)) _ (digit_value (n / 10) (omega arith))
      (and_from (is_value_byte (48 + n % 10)) true (digit_value (n % 10) (omega arith)) refl);
}

four_values : (n : ℕ) → n ≤ 9999 → IsValue (four_digits n)
four_values n h = joined (two_values (n / 100) (omega arith)) (two_values (n % 100) (omega arith))

day_values : (n : ℕ) → 1 ≤ n → n ≤ 7 → IsValue (day_name n)
day_values zero lo hi = absurd (omega arith)
day_values (suc zero) lo hi = record { pass = refl }
day_values (suc (suc zero)) lo hi = record { pass = refl }
day_values (suc (suc (suc zero))) lo hi = record { pass = refl }
day_values (suc (suc (suc (suc zero)))) lo hi = record { pass = refl }
day_values (suc (suc (suc (suc (suc zero))))) lo hi = record { pass = refl }
day_values (suc (suc (suc (suc (suc (suc zero)))))) lo hi = record { pass = refl }
day_values (suc (suc (suc (suc (suc (suc (suc zero))))))) lo hi = record { pass = refl }
day_values (suc (suc (suc (suc (suc (suc (suc (suc n)))))))) lo hi = absurd (omega arith)

day_begins : (n : ℕ) → 1 ≤ n → n ≤ 7 → (0 < length (day_name n))
    × (is_ows (get_or (day_name n) 0 0) ≡ false)
day_begins zero lo hi = absurd (omega arith)
day_begins (suc zero) lo hi = (omega arith, refl)
day_begins (suc (suc zero)) lo hi = (omega arith, refl)
day_begins (suc (suc (suc zero))) lo hi = (omega arith, refl)
day_begins (suc (suc (suc (suc zero)))) lo hi = (omega arith, refl)
day_begins (suc (suc (suc (suc (suc zero))))) lo hi = (omega arith, refl)
day_begins (suc (suc (suc (suc (suc (suc zero)))))) lo hi = (omega arith, refl)
day_begins (suc (suc (suc (suc (suc (suc (suc zero))))))) lo hi = (omega arith, refl)
day_begins (suc (suc (suc (suc (suc (suc (suc (suc n)))))))) lo hi = absurd (omega arith)

month_values : (n : ℕ) → 1 ≤ n → n ≤ 12 → IsValue (month_name n)
month_values zero lo hi = absurd (omega arith)
month_values (suc zero) lo hi = record { pass = refl }
month_values (suc (suc zero)) lo hi = record { pass = refl }
month_values (suc (suc (suc zero))) lo hi = record { pass = refl }
month_values (suc (suc (suc (suc zero)))) lo hi = record { pass = refl }
month_values (suc (suc (suc (suc (suc zero))))) lo hi = record { pass = refl }
month_values (suc (suc (suc (suc (suc (suc zero)))))) lo hi = record { pass = refl }
month_values (suc (suc (suc (suc (suc (suc (suc zero))))))) lo hi = record { pass = refl }
month_values (suc (suc (suc (suc (suc (suc (suc (suc zero)))))))) lo hi = record { pass = refl }
month_values (suc (suc (suc (suc (suc (suc (suc (suc (suc zero))))))))) lo hi =
    record { pass = refl }
month_values (suc (suc (suc (suc (suc (suc (suc (suc (suc (suc zero)))))))))) lo hi =
    record { pass = refl }
month_values (suc (suc (suc (suc (suc (suc (suc (suc (suc (suc (suc zero))))))))))) lo hi =
    record { pass = refl }
month_values (suc (suc (suc (suc (suc (suc (suc (suc (suc (suc (suc (suc zero)))))))))))) lo hi =
    record { pass = refl }
month_values (suc (suc (suc (suc (suc (suc (suc (suc (suc (suc (suc (suc (suc n))))))))))))) lo hi =
    absurd (omega arith)

colon_value : IsValue (codes ":")
colon_value = record { pass = refl }

space_value : IsValue (codes " ")
space_value = record { pass = refl }

comma_value : IsValue (codes ", ")
comma_value = record { pass = refl }

zone_value : IsValue (codes " GMT")
zone_value = record { pass = refl }

clock_values : (p : Parts) → p.hour < 24 → p.min < 60 → p.sec < 60 → IsValue (time_of_day p)
clock_values p h m s =
    joined (joined (joined (joined (two_values p.hour (omega arith)) colon_value)
    (two_values p.min (omega arith))) colon_value) (two_values p.sec (omega arith))

month_short : (a b c : Bool) → cond a (cond b 29 28) (cond c 30 31) ≤ 31
month_short true true c = omega arith
month_short true false c = omega arith
month_short false b true = omega arith
month_short false b false = omega arith

day_short : (d : HttpDate) → d.parts.day < 100
day_short d =
    let p = d.parts in
    let short = month_short (p.mon == 2) (is_leap_year p.year)
    ((p.mon == 4) || (p.mon == 6) || (p.mon == 9) || (p.mon == 11)) in
    omega (arith, short, d.civil.2.1)

all_values : (d : HttpDate) → IsValue (date_text d)
all_values d =
    let p = d.parts in
    let day = day_values p.wday (omega (arith, d.right_day)) (omega (arith, d.right_day)) in
    let month = month_values p.mon d.civil.1.0 d.civil.1.1 in
    let dated = joined (joined day comma_value) (two_values p.day (day_short d)) in
    let named = joined (joined (joined dated space_value) month) space_value in
    let year = joined (joined named (four_values p.year d.civil.0.1)) space_value in
    joined (joined year (clock_values p d.time.0 d.time.1 d.time.2)) zone_value

pub date_values : (d : HttpDate) → list_all is_value_byte (date_text d) ≡ true
date_values d = (all_values d).pass

-- ---- it begins and ends with no blank

trimmed_ends : (xs : List ℕ) → 0 < length xs → is_ows (get_or xs 0 0) ≡ false
    → is_ows (get_or xs (length xs - 1 - 0) 0) ≡ false → trim_ows (32 ∷ xs) ≡ xs
unfolding trim_ows
trimmed_ends xs some first last =
    let front : skip_ows xs ≡ xs = skip_first xs (λ more. first) in
    let ended : is_ows (get_or (reverse xs) 0 0) ≡ false =
    ap is_ows (get_or-reverse xs 0 0 some) ∙ last in
    let back : skip_ows (reverse xs) ≡ reverse xs = skip_first (reverse xs) (λ more. ended) in
    ap (λ (t : List ℕ). reverse (skip_ows (reverse t))) front ∙ ap reverse back ∙ reverse-reverse xs

-- a date's text up to its zone
abbrev before_zone : Parts → List ℕ
before_zone p =
    day_name p.wday ++ codes ", " ++ two_digits p.day ++ codes " " ++ month_name p.mon ++ codes " "
    ++ four_digits p.year ++ codes " " ++ time_of_day p

pub date_trimmed : (d : HttpDate) → trim_ows (32 ∷ date_text d) ≡ date_text d
date_trimmed d =
    let p = d.parts in
    let day = day_begins p.wday (omega (arith, d.right_day)) (omega (arith, d.right_day)) in
    let first : get_or (date_text d) 0 0 ≡ get_or (day_name p.wday) 0 0 =
    ap (λ (t : List ℕ). get_or t 0 0) (imf_fixdate_grouped p)
    ∙ get_or_append_left (day_name p.wday) _ 0 0 day.0 in
    let index : length (date_text d) - 1 - 0 ≡ length (before_zone p) + 3 =
    omega (arith, length-append (before_zone p) (codes " GMT")) in
    let last : get_or (date_text d) (length (date_text d) - 1 - 0) 0 ≡ 84 =
    ap (λ (i : ℕ). get_or (date_text d) i 0) index
    ∙ get_or-append-add (before_zone p) (codes " GMT") 3 0 in
    trimmed_ends (date_text d) (omega (arith, date_long d)) (ap is_ows first ∙ day.1)
    (ap is_ows last)

-- ---- it is read as its second

pub date_read : (d : HttpDate) → parse_secs (date_text d) ≡ Some (unix_secs d)
date_read d =
    let valid : IsValid d.parts = (d.civil, d.time, d.right_day) in
    ap (λ (o : Option Parts). option_and_then valid_secs o)
    (parse_complete (date_text d) d.parts valid (inl refl))
    ∙ cond-true (is_valid d.parts) (Some (parts_secs d.parts)) None
    (is_valid_complete d.parts valid)

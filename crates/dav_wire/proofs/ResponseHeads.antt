-- The head of a response that is written.
use Rattle.std.proofs.Common.{◌≡◌, ℕ, ◌+◌, ◌<◌, ◌≤◌, List, [], ◌∷◌, ◌++◌, length, Some, refl, sym, ap, ◌∙◌, arith, append_assoc, append-nil}
use Rattle.std.specs.Prelude.{codes, decimal, map, ◌^◌, IsTrue, All}
use Rattle.std.specs.Char.{is_ascii_digit}
use Rattle.std.specs.List.{flat_map}
use Rattle.std.specs.Str.Parse.{digits_value}
use Rattle.std.proofs.lemmas.List.{length-append}
use Rattle.std.proofs.lemmas.List.Elements.{All-cons, All-nil}
use Rattle.std.proofs.lemmas.List.Sums.{AllPass-from_list_all}
use Rattle.httparse.specs.Grammar.{is_token_byte, is_value_byte, trim_ows, AllPass, IsToken, crlf, Field, IsField, print_field, print_section, ResponseHead, IsResponseHead, print_response, status_code}
use Rattle.httparse.specs.Spans.{name_and_value}
use Rattle.httparse.proofs.GrammarLemmas.{print_response-append, cons-append}
use Rattle.httpdate.specs.Date.{date_text}
use Rattle.httpdate.specs.declared.date.HttpDate.{HttpDate}
use Rattle.dav_parts.proofs.DateLemmas.{date_long}
use Rattle.dav_parts.specs.Fields.{Fields, values_of}
use Rattle.dav_wire.specs.Requests.{length_lines}
use Rattle.dav_wire.specs.ResponseFrames.{body_count, single_length}
use Rattle.dav_wire.specs.ResponseReading.{fields_of}
use Rattle.dav_wire.specs.ResponseTexts.{status_text, status_line, date_line, type_line, end_lines, response_text}
use Rattle.dav_wire.proofs.DateTexts.{date_values, date_trimmed, values_pass}
use Rattle.jop_base.proofs.DecimalLaws.{decimal_in-decimal}
use Rattle.dav_wire.proofs.FieldTexts.{field, field_fits, length_named, decimal_visible, trimmed, length_short}

-- ---- the status line

-- a status as its digits and a phrase
pub record IsStatus (status : ℕ) (shown words : List ℕ) : Type 0 where
  pub text : status_text status ≡ shown ++ 32 ∷ words
  pub code : digits_value 10 shown ≡ status
  pub three : length shown ≡ 3
  pub digits : AllPass is_ascii_digit shown
  pub phrase : AllPass is_value_byte words
  pub short : length words ≤ 30

pub status_207 : IsStatus 207 (codes "207") (codes "Multi-Status")
status_207 = record {
  text = refl;
  code = refl;
  three = refl;
  digits =
      AllPass-from_list_all is_ascii_digit (codes "207") refl;
  phrase =
      AllPass-from_list_all is_value_byte (codes "Multi-Status") refl;
  short = omega arith;
}

pub status_200 : IsStatus 200 (codes "200") (codes "OK")
status_200 = record {
  text = refl;
  code = refl;
  three = refl;
  digits =
      AllPass-from_list_all is_ascii_digit (codes "200") refl;
  phrase =
      AllPass-from_list_all is_value_byte (codes "OK") refl;
  short = omega arith;
}

pub status_201 : IsStatus 201 (codes "201") (codes "Created")
status_201 = record {
  text = refl;
  code = refl;
  three = refl;
  digits =
      AllPass-from_list_all is_ascii_digit (codes "201") refl;
  phrase =
      AllPass-from_list_all is_value_byte (codes "Created") refl;
  short = omega arith;
}

pub status_204 : IsStatus 204 (codes "204") (codes "No Content")
status_204 = record {
  text = refl;
  code = refl;
  three = refl;
  digits =
      AllPass-from_list_all is_ascii_digit (codes "204") refl;
  phrase =
      AllPass-from_list_all is_value_byte (codes "No Content") refl;
  short = omega arith;
}

pub status_404 : IsStatus 404 (codes "404") (codes "Not Found")
status_404 = record {
  text = refl;
  code = refl;
  three = refl;
  digits =
      AllPass-from_list_all is_ascii_digit (codes "404") refl;
  phrase =
      AllPass-from_list_all is_value_byte (codes "Not Found") refl;
  short = omega arith;
}

-- ---- the fields after the date

date_named : IsToken (codes "Date")
unfolding is_token_byte
date_named = (omega arith, AllPass-from_list_all is_token_byte (codes "Date") refl)

type_named : IsToken (codes "Content-Type")
unfolding is_token_byte
type_named = (omega arith, AllPass-from_list_all is_token_byte (codes "Content-Type") refl)

abbrev pub type_value : List ℕ
type_value = codes "application/xml; charset=\"utf-8\""

value_fits : (name value : List ℕ) → IsToken name → AllPass is_value_byte value
    → IsField (field name value)
unfolding field
value_fits name value named h = record {
  name = named;
  raw =
      All-cons (λ b. IsTrue (is_value_byte b)) 32 value refl h;
}

-- the lines after the date are these fields, and tell so many bytes of a body
pub record AreFields (status count : ℕ) (fields : List Field) : Type 0 where
  pub text : (rest : List ℕ) → type_line status ++ (end_lines status count ++ rest)
      ≡ print_section fields crlf ++ rest
  pub fit : All IsField fields
  pub few : length (map name_and_value fields) ≤ 2
  pub plain : values_of (codes "transfer-encoding") (map name_and_value fields) ≡ []
  pub undated : values_of (codes "date") (map name_and_value fields) ≡ []
  pub counted : body_count status ((codes "Date", []) ∷ map name_and_value fields) ≡ Some count
  pub short : length (type_line status) + length (end_lines status count) ≤ 100

unfoldable pub length_field : ℕ → Field
length_field count = field (codes "Content-Length") (decimal count)

length_text : (count : ℕ) (rest : List ℕ) → length_lines count ++ rest
    ≡ print_section (length_field count ∷ []) crlf ++ rest
unfolding length_field field length_lines
length_text count rest = regroup (codes "Content-Length: ") (decimal count) (codes "\r\n") rest
  where
    regroup : (b n e r : List ℕ) → (b ++ (n ++ (e ++ e))) ++ r ≡ ((((b ++ n) ++ e) ++ []) ++ e) ++ r
    regroup b n e r = simp (append_assoc, append-nil)

length_fits : (count : ℕ) → count < 2 ^ 64 → IsField (length_field count)
unfolding length_field
length_fits count small = field_fits (codes "Content-Length") (decimal count) length_named
    (decimal_visible count small)

counted_by : (count : ℕ) (values : List (List ℕ)) → count < 2 ^ 64
    → values ≡ trim_ows (32 ∷ decimal count) ∷ [] → single_length values ≡ Some count
counted_by count values small is =
    ap single_length is ∙ ap (λ (t : List ℕ). single_length (t ∷ []))
    (trimmed (decimal count) (decimal_visible count small)) ∙ decimal_in-decimal count small

module _ (count : ℕ) (small : count < 2 ^ 64) where
  plain_fields : (status : ℕ) → type_line status ≡ [] → end_lines status count ≡ length_lines count
      → body_count status ((codes "Date", []) ∷ map name_and_value (length_field count ∷ []))
      ≡ single_length (trim_ows (32 ∷ decimal count) ∷ [])
      → AreFields status count (length_field count ∷ [])
  unfolding length_field field values_of
  plain_fields status untyped ended by = record {
    text = λ rest. (λ i. untyped i ++ (ended i ++ rest)) ∙ length_text count rest;
    fit = All-cons IsField (length_field count) [] (length_fits count small) (All-nil IsField);
    few = omega arith;
    plain = refl;
    undated = refl;
    counted = by ∙ counted_by count (trim_ows (32 ∷ decimal count) ∷ []) small refl;
    short = omega (
      arith,
      ap (λ (t : List ℕ). length t) untyped,
      ap (λ (t : List ℕ). length t)
          ended,
      length_short count small,
    );
  }

  pub fields_200 : AreFields 200 count (length_field count ∷ [])
  unfolding type_line end_lines length_field field values_of
  fields_200 = plain_fields 200 refl refl refl

  pub fields_201 : AreFields 201 count (length_field count ∷ [])
  unfolding type_line end_lines length_field field values_of
  fields_201 = plain_fields 201 refl refl refl

  pub fields_404 : AreFields 404 count (length_field count ∷ [])
  unfolding type_line end_lines length_field field values_of
  fields_404 = plain_fields 404 refl refl refl

  pub fields_207 : AreFields 207 count (field (codes "Content-Type") type_value ∷ length_field count
      ∷ [])
  unfolding type_line end_lines length_field field values_of
  fields_207 =
      let typed_long : length (type_line 207) ≡ 48 = refl in
      let ended : end_lines 207 count ≡ length_lines count = refl in
      let short : length (type_line 207) + length (end_lines 207 count) ≤ 100 =
      omega (arith, typed_long, ap (λ (t : List ℕ). length t) ended, length_short count small) in
      record {
        text = λ rest. typed (codes "Content-Type: ") type_value (codes "\r\n") (length_lines count
            ++ rest) (print_section (length_field count ∷ []) crlf ++ rest) (length_text count rest);
        fit = All-cons IsField (field (codes "Content-Type") type_value) (length_field count ∷ [])
            (value_fits (codes "Content-Type") type_value type_named
            (AllPass-from_list_all is_value_byte type_value refl))
            (All-cons IsField (length_field count) [] (length_fits count small) (All-nil IsField));
        few = omega arith;
        plain = refl;
        undated = refl;
        counted = counted_by count (trim_ows (32 ∷ decimal count) ∷ []) small refl;
        short = short;
      }
    where
      typed : (a v e s t : List ℕ) → s ≡ t → (a ++ (v ++ e)) ++ s ≡ ((a ++ v) ++ e) ++ t
      typed a v e s t is = ap (λ (x : List ℕ). (a ++ (v ++ e)) ++ x) is ∙ simp append_assoc

pub fields_204 : AreFields 204 0 []
unfolding type_line end_lines values_of
fields_204 = record {
  text = λ rest. refl;
  fit = All-nil IsField;
  few = omega arith;
  plain = refl;
  undated = refl;
  counted = refl;
  short = omega arith;
}

-- ---- the head

unfoldable pub head_for : (digits phrase date : List ℕ) (fields : List Field) → ResponseHead
head_for digits phrase date fields = record {
  blank = [];
  minor = 1;
  digits = digits;
  reason =
      Some phrase;
  line_end = crlf;
  fields = field (codes "Date") date ∷ fields;
  last = crlf;
}

module _ (status count : ℕ) (digits phrase : List ℕ) (fields : List Field)
    (s : IsStatus status digits phrase) (f : AreFields status count fields) (date : HttpDate) where
  head_text : (rest : List ℕ) → status_line status ++ (date_line (date_text date)
      ++ (print_section fields crlf ++ rest)) ≡ print_response
      (head_for digits phrase (date_text date) fields) ++ rest
  unfolding status_line date_line head_for field
  head_text rest =
      ap (λ (s : List ℕ). (codes "HTTP/1.1 " ++ (s ++ codes "\r\n")) ++ (date_line (date_text date)
      ++ (print_section fields crlf ++ rest))) s.text
      ∙ regroup (codes "HTTP/1.1 ") digits phrase (codes "\r\n") (codes "Date: ") (date_text date)
      (flat_map print_field fields) rest
      ∙ sym (print_response-append (head_for digits phrase (date_text date) fields) rest)
    where
      regroup : (v d p e t m f r : List ℕ) → (v ++ ((d ++ 32 ∷ p) ++ e))
          ++ ((t ++ (m ++ e)) ++ ((f ++ e) ++ r)) ≡ v
          ++ (d ++ ((32 ∷ p) ++ (e ++ (((((t ++ m) ++ e) ++ f) ++ e) ++ r))))
      regroup v d p e t m f r = simp (append_assoc, cons-append)

  pub text_is : (body more : List ℕ) → length body ≡ count
      → response_text status (date_text date) body ++ more ≡ print_response
      (head_for digits phrase (date_text date) fields) ++ (body ++ more)
  unfolding response_text
  text_is body more counted =
      let flat : response_text status (date_text date) body ++ more ≡ status_line status
      ++ (date_line (date_text date) ++ (type_line status ++ (end_lines status (length body)
      ++ (body ++ more)))) = simp append_assoc in
      flat
      ∙ ap (λ (n : ℕ). status_line status ++ (date_line (date_text date)
      ++ (type_line status ++ (end_lines status n ++ (body ++ more))))) counted
      ∙ ap (λ (t : List ℕ). status_line status ++ (date_line (date_text date) ++ t))
      (f.text (body ++ more))
      ∙ head_text (body ++ more)

  pub head_fits : IsResponseHead (head_for digits phrase (date_text date) fields)
  unfolding head_for
  head_fits = record {
    minor = omega arith;
    digits = (s.three, s.digits);
    reason = s.phrase;
    fields = All-cons IsField (field (codes "Date") (date_text date)) fields
        (value_fits (codes "Date") (date_text date) date_named (values_pass (date_text date)
        (date_values date))) f.fit;
  }

  status_short : length (status_line status) ≤ 50
  unfolding status_line
  status_short =
      omega (
        arith,
        s.short,
        s.three,
        ap (λ (t : List ℕ). length t) s.text,
        length-append digits (32 ∷ phrase),
        length-append (status_text status) (codes "\r\n"),
      )

  date_short : length (date_line (date_text date)) ≤ 40
  unfolding date_line
  date_short = omega (arith, date_long date, length-append (date_text date) (codes "\r\n"))

  section_short : length (print_section fields crlf) ≤ 100
  section_short =
      omega (
        arith,
        ap (λ (t : List ℕ). length t) (f.text []),
        f.short,
        length-append (print_section fields crlf) [],
        length-append (type_line status) (end_lines status count ++ []),
        length-append (end_lines status count) [],
      )

  pub head_short : length (print_response (head_for digits phrase (date_text date) fields)) ≤ 16_384
  head_short =
      let rest = print_section fields crlf ++ [] in
      omega (
        arith,
        status_short,
        date_short,
        section_short,
        ap (λ (t : List ℕ). length t) (head_text []),
        length-append (status_line status) (date_line (date_text date) ++ rest),
        length-append (date_line (date_text date)) rest,
        length-append (print_section fields crlf) [],
        length-append (print_response (head_for digits phrase (date_text date) fields)) [],
      )

  abbrev pairs : Fields
  pairs = fields_of (head_for digits phrase (date_text date) fields)

  pub head_code : status_code (head_for digits phrase (date_text date) fields) ≡ status
  unfolding head_for
  head_code = s.code

  pub head_few : length pairs ≤ 128
  unfolding head_for
  head_few = omega (arith, f.few)

  pub head_plain : values_of (codes "transfer-encoding") pairs ≡ []
  unfolding head_for field values_of
  head_plain = f.plain

  pub head_date : values_of (codes "date") pairs ≡ date_text date ∷ []
  unfolding head_for field values_of
  head_date = λ i. date_trimmed date i ∷ f.undated i

  pub head_count : body_count status pairs ≡ Some count
  unfolding head_for field values_of
  head_count = f.counted

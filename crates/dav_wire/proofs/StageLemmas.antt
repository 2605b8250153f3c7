-- The bytes that end within a target, by the stages and by the grammar of `httparse`.
use Rattle.std.proofs.Common.{◌≡◌, ℕ, ◌+◌, ◌<◌, ◌≤◌, List, [], ◌∷◌, ◌++◌, length, get_or, drop, Bool, true, false, cond, ◌==◌, refl, sym, ap, subst, ◌∙◌, arith, append_assoc, eqb-true}
use Rattle.std.specs.Prelude.{IsTrue}
use Rattle.std.proofs.lemmas.Bool.{false≢true, cond-true, cond-false, or_parts, ne_eqb}
use Rattle.std.proofs.lemmas.List.{drop_more, drop_all}
use Rattle.std.proofs.lemmas.List.Elements.{All-cons, All-nil, All-head, All-tail}
use Rattle.httparse.specs.Grammar.{is_token_byte, is_uri_byte, AllPass, IsToken, LineEnd, crlf, lf, print_end, print_blank, EndsInTarget}
use Rattle.httparse.proofs.PieceLemmas.{token_is_no_newline, space_ends_token}
use Rattle.dav_wire.specs.declared.target_stage.Stage.{Stage}
use Rattle.dav_wire.specs.declared.target_stage.Stage.TheVariants.{Blank, Return, Method, Target, Other}
use Rattle.dav_wire.specs.TargetStages.{after_byte, after_bytes}

-- ---- step by step

pub after_more : (stage : Stage) (bytes : List ℕ) (i d : ℕ) → i < length bytes
    → after_bytes stage (drop i bytes)
    ≡ after_bytes (after_byte stage (get_or bytes i d)) (drop (i + 1) bytes)
unfolding after_bytes
after_more stage bytes i d inside = ap (after_bytes stage) (drop_more bytes i d inside)

pub after_all : (stage : Stage) (bytes : List ℕ) (i : ℕ) → length bytes ≤ i
    → after_bytes stage (drop i bytes) ≡ stage
unfolding after_bytes
after_all stage bytes i done = ap (after_bytes stage) (drop_all i bytes done)

after_append : (stage : Stage) (xs ys : List ℕ)
    → after_bytes stage (xs ++ ys) ≡ after_bytes (after_bytes stage xs) ys
unfolding after_bytes
after_append stage [] ys = refl
after_append stage (x ∷ xs) ys = after_append (after_byte stage x) xs ys

-- ---- from the stages to the grammar

never_target : (bytes : List ℕ) → after_bytes Other bytes ≡ Target → ⊥
unfolding after_bytes
never_target [] h = cc
never_target (b ∷ bytes) h = never_target bytes h

in_target : (bytes : List ℕ) → after_bytes Target bytes ≡ Target → AllPass is_uri_byte bytes
unfolding after_bytes
in_target [] h = All-nil (λ b. IsTrue (is_uri_byte b))
in_target (b ∷ bytes) h = go (is_uri_byte b) refl h (in_target bytes)
  where
    go : (u : Bool) → is_uri_byte b ≡ u → after_bytes (cond u Target Other) bytes ≡ Target
        → (after_bytes Target bytes ≡ Target → AllPass is_uri_byte bytes)
        → AllPass is_uri_byte (b ∷ bytes)
    go true is h rest = All-cons (λ c. IsTrue (is_uri_byte c)) b bytes is (rest h)
    go false is h rest = absurd (never_target bytes h)

record InMethod (bytes : List ℕ) : Type 0 where
  method : List ℕ
  target : List ℕ
  token : AllPass is_token_byte method
  uri : AllPass is_uri_byte target
  text : bytes ≡ method ++ 32 ∷ target

in_method : (bytes : List ℕ) → after_bytes Method bytes ≡ Target → InMethod bytes
unfolding after_bytes
in_method [] h = absurd (cc)
in_method (b ∷ bytes) h = go (b == 32) (is_token_byte b) refl refl h (in_method bytes)
  where
    go : (s t : Bool) → (b == 32) ≡ s → is_token_byte b ≡ t
        → after_bytes (cond s Target (cond t Method Other)) bytes ≡ Target
        → (after_bytes Method bytes ≡ Target
        → InMethod bytes) → InMethod (b ∷ bytes)
    go true t space is h rest = record {
      method = [];
      target = bytes;
      token =
          All-nil (λ c. IsTrue (is_token_byte c));
      uri = in_target bytes h;
      text =
          ap (λ (c : ℕ). c ∷ bytes) (eqb-true b 32 space);
    }
    go false true space is h rest = let r = rest h in
        record {
          method = b ∷ r.method;
          target = r.target;
          token =
              All-cons (λ c. IsTrue (is_token_byte c)) b r.method is r.token;
          uri = r.uri;
          text =
              ap (λ (t : List ℕ). b ∷ t) r.text;
        }
    go false false space is h rest = absurd (never_target bytes h)

record InLine (bytes : List ℕ) : Type 0 where
  blank : List LineEnd
  method : List ℕ
  target : List ℕ
  token : IsToken method
  uri : AllPass is_uri_byte target
  text : bytes ≡ print_blank blank ++ (method ++ 32 ∷ target)

behind_end : (end : LineEnd) (bytes : List ℕ) → InLine bytes → InLine (print_end end ++ bytes)
behind_end end bytes r = record {
  blank = end ∷ r.blank;
  method = r.method;
  target =
      r.target;
  token = r.token;
  uri = r.uri;
  text = ap (λ (t : List ℕ). print_end end ++ t) r.text
      ∙ sym (append_assoc (print_end end) (print_blank r.blank) (r.method ++ 32 ∷ r.target));
}

begun : (b : ℕ) (bytes : List ℕ) → is_token_byte b ≡ true → InMethod bytes → InLine (b ∷ bytes)
begun b bytes is r = record {
  blank = [];
  method = b ∷ r.method;
  target = r.target;
  token =
      (omega arith, All-cons (λ c. IsTrue (is_token_byte c)) b r.method is r.token);
  uri =
      r.uri;
  text = ap (λ (t : List ℕ). b ∷ t) r.text;
}

in_line : (bytes : List ℕ) → after_bytes Blank bytes ≡ Target → InLine bytes
unfolding after_bytes
in_line [] h = absurd (cc)
in_line (b ∷ []) h = go (b == 13) (b == 10) (is_token_byte b) h
  where
    go : (r l t : Bool) → cond r Return (cond l Blank (cond t Method Other)) ≡ Target
        → InLine (b ∷ [])
    go true l t h = absurd (cc)
    go false true t h = absurd (cc)
    go false false true h = absurd (cc)
    go false false false h = absurd (cc)
in_line (b ∷ c ∷ bytes) h = go (b == 13) (b == 10) (is_token_byte b) refl refl refl h
    (in_line (c ∷ bytes)) (in_line bytes)
  where
    returned : (l : Bool) → (c == 10) ≡ l → after_bytes (cond l Blank Other) bytes ≡ Target
        → (after_bytes Blank bytes ≡ Target → InLine bytes) → (b ≡ 13) → InLine (b ∷ c ∷ bytes)
    returned true is h rest cr = subst InLine (λ i. sym cr i ∷ sym (eqb-true c 10 is) i ∷ bytes)
        (behind_end crlf bytes (rest h))
    returned false is h rest cr = absurd (never_target bytes h)

    go : (r l t : Bool) → (b == 13) ≡ r → (b == 10) ≡ l → is_token_byte b ≡ t
        → after_bytes (cond r Return (cond l Blank (cond t Method Other))) (c ∷ bytes) ≡ Target
        → (after_bytes Blank (c ∷ bytes) ≡ Target → InLine (c ∷ bytes))
        → (after_bytes Blank bytes ≡ Target
        → InLine bytes) → InLine (b ∷ c ∷ bytes)
    go true l t cr nl is h rest later = returned (c == 10) refl h later (eqb-true b 13 cr)
    go false true t cr nl is h rest later = subst InLine (λ i. sym (eqb-true b 10 nl) i ∷ c ∷ bytes)
        (behind_end lf (c ∷ bytes) (rest h))
    go false false true cr nl is h rest later = begun b (c ∷ bytes) is (in_method (c ∷ bytes) h)
    go false false false cr nl is h rest later = absurd (never_target (c ∷ bytes) h)

pub target_from_stage : (bytes : List ℕ) → after_bytes Blank bytes ≡ Target → EndsInTarget bytes
target_from_stage bytes h =
    let r = in_line bytes h in (
      r.blank,
      r.method,
      r.target,
      r.token,
      r.uri,
      r.text
          ∙ sym (append_assoc (print_blank r.blank) r.method (32 ∷ r.target)),
    )

-- ---- from the grammar to the stages

blanks_stay : (ends : List LineEnd) → after_bytes Blank (print_blank ends) ≡ Blank
unfolding after_bytes
blanks_stay [] = refl
blanks_stay (crlf ∷ ends) = blanks_stay ends
blanks_stay (lf ∷ ends) = blanks_stay ends

token_begins : (b : ℕ) → is_token_byte b ≡ true → after_byte Blank b ≡ Method
token_begins b is =
    let not = or_parts (b == 13) (b == 10) (token_is_no_newline b is) in
    cond-false (b == 13) Return (cond (b == 10) Blank (cond (is_token_byte b) Method Other)) not.0
    ∙ cond-false (b == 10) Blank (cond (is_token_byte b) Method Other) not.1
    ∙ cond-true (is_token_byte b) Method Other is

token_stays : (b : ℕ) → is_token_byte b ≡ true → after_byte Method b ≡ Method
token_stays b is =
    let not : (b == 32) ≡ false = ne_eqb b 32 (λ e. false≢true (sym space_ends_token
    ∙ ap is_token_byte (sym e) ∙ is)) in
    cond-false (b == 32) Target (cond (is_token_byte b) Method Other) not
    ∙ cond-true (is_token_byte b) Method Other is

method_stays : (method : List ℕ) → AllPass is_token_byte method → after_bytes Method method ≡ Method
unfolding after_bytes
method_stays [] h = refl
method_stays (b ∷ method) h = ap (λ (s : Stage). after_bytes s method)
    (token_stays b (All-head (λ c. IsTrue (is_token_byte c)) b method h))
    ∙ method_stays method (All-tail (λ c. IsTrue (is_token_byte c)) b method h)

method_begins : (method : List ℕ) → IsToken method → after_bytes Blank method ≡ Method
unfolding after_bytes
method_begins [] h = absurd (omega (arith, h.0))
method_begins (b ∷ method) h = ap (λ (s : Stage). after_bytes s method)
    (token_begins b (All-head (λ c. IsTrue (is_token_byte c)) b method h.1))
    ∙ method_stays method (All-tail (λ c. IsTrue (is_token_byte c)) b method h.1)

target_stays : (target : List ℕ) → AllPass is_uri_byte target → after_bytes Target target ≡ Target
unfolding after_bytes
target_stays [] h = refl
target_stays (b ∷ target) h = ap (λ (s : Stage). after_bytes s target)
    (cond-true (is_uri_byte b) Target Other (All-head (λ c. IsTrue (is_uri_byte c)) b target h))
    ∙ target_stays target (All-tail (λ c. IsTrue (is_uri_byte c)) b target h)

pub stage_from_target : (bytes : List ℕ) → EndsInTarget bytes → after_bytes Blank bytes ≡ Target
unfolding after_bytes
stage_from_target bytes h =
    let blank = h.0 in
    let method = h.1 in
    let target = h.2 in
    ap (after_bytes Blank) (h.5 ∙ append_assoc (print_blank blank) method (32 ∷ target))
    ∙ after_append Blank (print_blank blank) (method ++ 32 ∷ target)
    ∙ ap (λ (s : Stage). after_bytes s (method ++ 32 ∷ target)) (blanks_stay blank)
    ∙ after_append Blank method (32 ∷ target)
    ∙ ap (λ (s : Stage). after_bytes s (32 ∷ target)) (method_begins method h.3)
    ∙ target_stays target h.4

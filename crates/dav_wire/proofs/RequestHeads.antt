-- The head of a request that is written.
use Rattle.std.proofs.Common.{◌≡◌, ℕ, ◌<◌, ◌≤◌, List, [], ◌∷◌, ◌++◌, length, refl, sym, ap, ◌∙◌, arith, append_assoc, append-nil}
use Rattle.std.specs.Prelude.{codes, decimal, ◌^◌, All}
use Rattle.std.proofs.lemmas.List.{length-append}
use Rattle.std.proofs.lemmas.List.Elements.{All-cons, All-nil}
use Rattle.std.proofs.lemmas.List.Sums.{AllPass-from_list_all}
use Rattle.std.proofs.lemmas.Str.{IsUtf8-from_ascii}
use Rattle.httparse.specs.Grammar.{is_token_byte, IsToken, crlf, print_end, print_version, Field, IsField, print_section, RequestHead, IsRequestHead, print_request}
use Rattle.httparse.proofs.GrammarLemmas.{print_request-append, cons-append}
use Rattle.jop_base.specs.Paths.{IsPath}
use Rattle.jop_base.specs.declared.dir.Dir.{Dir}
use Rattle.jop_base.specs.declared.path.Path.{Path}
use Rattle.jop_base.specs.declared.path.Path.TheVariants.{Blob}
use Rattle.jop_base.proofs.PathTexts.{prefix_short, text_short}
use Rattle.jop_target.specs.declared.call.Call.{Call}
use Rattle.jop_target.specs.declared.call.Call.TheVariants as calls
use Rattle.dav_parts.specs.declared.method.Method.{Method}
use Rattle.dav_parts.specs.declared.method.Method.TheVariants as methods
use Rattle.dav_parts.specs.Targets.{method_text, method_of, path_target, dir_target, target_of}
use Rattle.dav_wire.specs.Requests.{body_of, depth_line, start_line, host_line, length_lines, request_text, HasIds}
use Rattle.dav_wire.specs.RequestBack.{IsHost}
use Rattle.dav_wire.proofs.FieldTexts.{target_visible, uri_visible, ascii_visible, field, length_named, field_fits, decimal_visible, length_short}

-- ---- the head

unfoldable pub depth_fields : Call → List Field
depth_fields (calls.List dir) = field (codes "Depth") (codes "1") ∷ []
depth_fields call = []

unfoldable pub fields_for : List ℕ → Call → ℕ → List Field
fields_for host call count = field (codes "Host") host ∷ (depth_fields call
    ++ field (codes "Content-Length") (decimal count) ∷ [])

unfoldable pub head_for : List ℕ → Call → ℕ → RequestHead
head_for host call count = record {
  blank = [];
  method = method_text (method_of call);
  target =
      target_of call;
  minor = 1;
  line_end = crlf;
  fields = fields_for host call count;
  last = crlf;
}

pub fields_by_call : (P : List Field → List ℕ → Type 0) → P [] []
    → P (field (codes "Depth") (codes "1") ∷ []) (codes "Depth: 1\r\n") → (call : Call)
    → P (depth_fields call) (depth_line call)
unfolding depth_fields
fields_by_call P none one (calls.List dir) = one
fields_by_call P none one (calls.Get path) = none
fields_by_call P none one (calls.Put path content) = none
fields_by_call P none one (calls.Delete path) = none
fields_by_call P none one (calls.MakeDir dir) = none
fields_by_call P none one (calls.GetBlob id) = none
fields_by_call P none one (calls.PutBlob id len) = none

pub section_is : (host : List ℕ) (call : Call) (count : ℕ) (rest : List ℕ)
    → print_section (fields_for host call count) crlf ++ rest ≡ host_line host
    ++ (depth_line call ++ (length_lines count ++ rest))
unfolding fields_for field host_line length_lines
section_is host call count rest =
    let P : List Field → List ℕ → Type 0 = λ fields line.
    print_section (field (codes "Host") host ∷ (fields ++ field (codes "Content-Length")
    (decimal count) ∷ [])) crlf ++ rest ≡ host_line host
    ++ (line ++ (length_lines count ++ rest)) in
    fields_by_call P (two (codes "Host: ") host (codes "Content-Length: ") (decimal count)
    (codes "\r\n") rest) (three (codes "Host: ") host (codes "Depth: 1")
    (codes "Content-Length: ") (decimal count) (codes "\r\n") rest) call
  where
    two : (a h b n e r : List ℕ) → ((((a ++ h) ++ e) ++ (((b ++ n) ++ e) ++ [])) ++ e) ++ r
        ≡ (a ++ (h ++ e)) ++ ((b ++ (n ++ (e ++ e))) ++ r)
    two a h b n e r = simp (append_assoc, append-nil)

    three : (a h d b n e r : List ℕ) → ((((a ++ h) ++ e) ++ ((d ++ e) ++ (((b ++ n) ++ e) ++ [])))
        ++ e) ++ r ≡ (a ++ (h ++ e)) ++ ((d ++ e) ++ ((b ++ (n ++ (e ++ e))) ++ r))
    three a h d b n e r = simp (append_assoc, append-nil)

pub start_is : (call : Call) (rest : List ℕ) → start_line call ++ rest
    ≡ method_text (method_of call)
    ++ 32 ∷ (target_of call ++ 32 ∷ (print_version 1 ++ (print_end crlf ++ rest)))
unfolding start_line
start_is call rest = regroup (method_text (method_of call)) (target_of call) rest
  where
    regroup : (m t r : List ℕ) → (m ++ (32 ∷ (t ++ codes " HTTP/1.1\r\n"))) ++ r ≡ m
        ++ 32 ∷ (t ++ 32 ∷ (codes "HTTP/1.1\r\n" ++ r))
    regroup m t r = simp (append_assoc, cons-append)

pub text_is : (host : List ℕ) (call : Call) (blob more : List ℕ) → request_text host call blob
    ++ more
    ≡ print_request (head_for host call (length (body_of call blob))) ++ (body_of call blob ++ more)
unfolding request_text head_for
text_is host call blob more =
    let body = body_of call blob in
    let count = length body in
    let flat : request_text host call blob ++ more ≡ start_line call
    ++ (host_line host ++ (depth_line call ++ (length_lines count ++ (body ++ more)))) =
    simp append_assoc in
    flat
    ∙ ap (λ (t : List ℕ). start_line call ++ t) (sym (section_is host call count (body ++ more)))
    ∙ start_is call (print_section (fields_for host call count) crlf ++ (body ++ more))
    ∙ sym (print_request-append (head_for host call count) (body ++ more))

-- ---- the head is one

pub method_token : (method : Method) → IsToken (method_text method)
unfolding is_token_byte
method_token methods.List = (
  omega arith,
  AllPass-from_list_all is_token_byte (codes "PROPFIND")
      refl,
)
method_token methods.Get = (omega arith, AllPass-from_list_all is_token_byte (codes "GET") refl)
method_token methods.Put = (omega arith, AllPass-from_list_all is_token_byte (codes "PUT") refl)
method_token methods.Delete = (
  omega arith,
  AllPass-from_list_all is_token_byte (codes "DELETE")
      refl,
)
method_token methods.MakeDir = (
  omega arith,
  AllPass-from_list_all is_token_byte
      (codes "MKCOL") refl,
)

pub host_named : IsToken (codes "Host")
unfolding is_token_byte
host_named = (omega arith, AllPass-from_list_all is_token_byte (codes "Host") refl)

pub depth_named : IsToken (codes "Depth")
unfolding is_token_byte
depth_named = (omega arith, AllPass-from_list_all is_token_byte (codes "Depth") refl)

pub fields_fit : (host : List ℕ) (call : Call) (count : ℕ) → IsHost host → count < 2 ^ 64
    → All IsField (fields_for host call count)
unfolding fields_for
fields_fit host call count h small =
    let last = All-cons IsField (field (codes "Content-Length") (decimal count)) []
    (field_fits (codes "Content-Length") (decimal count) length_named
    (decimal_visible count small)) (All-nil IsField) in
    let P : List Field → List ℕ → Type 0 = λ fields line.
    All IsField (fields ++ field (codes "Content-Length") (decimal count) ∷ []) in
    All-cons IsField (field (codes "Host") host) (depth_fields call
    ++ field (codes "Content-Length") (decimal count) ∷ [])
    (field_fits (codes "Host") host host_named h.visible)
    (fields_by_call P last (All-cons IsField (field (codes "Depth") (codes "1"))
    (field (codes "Content-Length") (decimal count) ∷ []) (field_fits (codes "Depth")
    (codes "1") depth_named refl) last) call)

pub target_some : (call : Call) → 0 < length (target_of call)
target_some (calls.List dir) = omega arith
target_some (calls.Get path) = omega arith
target_some (calls.Put path content) = omega arith
target_some (calls.Delete path) = omega arith
target_some (calls.MakeDir dir) = omega arith
target_some (calls.GetBlob id) = omega arith
target_some (calls.PutBlob id len) = omega arith

pub head_fits : (host : List ℕ) (call : Call) (count : ℕ) → IsHost host → HasIds call
    → count < 2 ^ 64
    → IsRequestHead (head_for host call count)
unfolding head_for
head_fits host call count h ids small =
    let seen = target_visible call ids in
    record {
      method = method_token (method_of call);
      target = (target_some call, uri_visible (target_of call) seen);
      target_text = IsUtf8-from_ascii (target_of call) (ascii_visible (target_of call) seen);
      minor = omega arith;
      fields = fields_fit host call count h small;
    }

-- ---- the head is short

path_short : (path : Path) → IsPath path → length (path_target path) ≤ 60
path_short path h = omega (arith, text_short path h)

dir_short : (dir : Dir) → length (dir_target dir) ≤ 60
dir_short dir = omega (arith, prefix_short dir)

pub target_short : (call : Call) → HasIds call → length (target_of call) ≤ 60
target_short (calls.List dir) h = dir_short dir
target_short (calls.Get path) h = path_short path h
target_short (calls.Put path content) h = path_short path h
target_short (calls.Delete path) h = path_short path h
target_short (calls.MakeDir dir) h = dir_short dir
target_short (calls.GetBlob id) h = path_short (Blob id) h
target_short (calls.PutBlob id len) h = path_short (Blob id) h

pub method_short : (method : Method) → length (method_text method) ≤ 8
method_short methods.List = omega arith
method_short methods.Get = omega arith
method_short methods.Put = omega arith
method_short methods.Delete = omega arith
method_short methods.MakeDir = omega arith

pub depth_short : (call : Call) → length (depth_line call) ≤ 10
depth_short call = let P : List Field → List ℕ → Type 0 = λ fields line. length line ≤ 10 in
    fields_by_call P (omega arith) (omega arith) call

pub start_short : (call : Call) → HasIds call → length (start_line call) ≤ 80
unfolding start_line
start_short call ids = omega (
  arith,
  method_short (method_of call),
  target_short call ids,
  length-append (method_text (method_of call)) (32 ∷ (target_of call ++ codes " HTTP/1.1\r\n")),
  length-append (target_of call) (codes " HTTP/1.1\r\n"),
)

pub host_short : (host : List ℕ) → IsHost host → length (host_line host) ≤ 16_010
unfolding host_line
host_short host h = omega (arith, h.long, length-append host (codes "\r\n"))

pub head_short : (host : List ℕ) (call : Call) (blob : List ℕ) → IsHost host → HasIds call
    → length (body_of call blob) < 2 ^ 64
    → length (print_request (head_for host call (length (body_of call blob)))) ≤ 16_384
unfolding request_text
head_short host call blob h ids small =
    let body = body_of call blob in
    let count = length body in
    let rest = length_lines count ++ body in
    let text = ap (λ (t : List ℕ). length t) (text_is host call blob []) in
    omega (
      arith,
      text,
      start_short call ids,
      host_short host h,
      depth_short call,
      length_short count small,
      length-append (request_text host call blob) [],
      length-append (print_request (head_for host call count)) (body ++ []),
      length-append body [],
      length-append (start_line call) (host_line host ++ (depth_line call ++ rest)),
      length-append (host_line host) (depth_line call ++ rest),
      length-append (depth_line call) rest,
      length-append (length_lines count) body,
    )

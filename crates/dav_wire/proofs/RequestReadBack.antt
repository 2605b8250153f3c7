-- A request that is written is read back.
use Rattle.std.proofs.Common.{◌≡◌, ℕ, ◌+◌, ◌-◌, ◌<◌, ◌≤◌, List, [], ◌∷◌, ◌++◌, length, Bool, true, false, cond, Some, refl, sym, ap, subst, ◌∙◌, arith}
use Rattle.std.specs.Prelude.{codes, decimal, nat_lt, ◌^◌}
use Rattle.std.specs.List.{list_any}
use Rattle.std.proofs.lemmas.Bool.{cond-false, le-ltb}
use Rattle.std.proofs.lemmas.List.{length-append, take_at}
use Rattle.httparse.specs.Grammar.{trim_ows, print_request}
use Rattle.jop_base.specs.declared.dir.Dir.{Dir}
use Rattle.jop_target.specs.declared.call.Call.{Call}
use Rattle.jop_target.specs.declared.call.Call.TheVariants as calls
use Rattle.dav_wire.specs.declared.framing.Framing.TheVariants.{Refused, Body}
use Rattle.dav_wire.specs.declared.request_reader.ReadRequest.TheVariants.{Whole}
use Rattle.dav_parts.specs.declared.method.Method.TheVariants as methods
use Rattle.dav_parts.specs.Fields.{Fields, is_same_name, values_of}
use Rattle.dav_parts.specs.Targets.{method_text, method_of, dir_target, target_of, is_blob_target, put_limit}
use Rattle.dav_wire.specs.Requests.{body_of, request_text, is_put, is_one, framing_of, AsksFor, IsDecided, IsRequestFrom}
use Rattle.dav_wire.specs.RequestReading.{RequestReadsAs, fields_of}
use Rattle.dav_wire.specs.RequestBack.{IsHost, IsSendable, blob_of, request_for}
use Rattle.dav_wire.proofs.FramingLemmas.{framing_plain, lengths_one}
use Rattle.jop_base.proofs.DecimalLaws.{decimal_in-decimal}
use Rattle.dav_wire.proofs.FieldTexts.{trimmed, field, decimal_visible}
use Rattle.dav_wire.proofs.RequestHeads.{depth_fields, fields_for, head_for, text_is, head_fits, head_short}

-- ---- what the head says of its length

abbrev pairs : List ℕ → Call → ℕ → Fields
pairs host call count = fields_of (head_for host call count)

few_fields : (host : List ℕ) (call : Call) (count : ℕ) → length (pairs host call count) ≤ 128
unfolding head_for fields_for depth_fields field values_of
few_fields host (calls.List dir) count = omega arith
few_fields host (calls.Get path) count = omega arith
few_fields host (calls.Put path content) count = omega arith
few_fields host (calls.Delete path) count = omega arith
few_fields host (calls.MakeDir dir) count = omega arith
few_fields host (calls.GetBlob id) count = omega arith
few_fields host (calls.PutBlob id len) count = omega arith

not_coded : (host : List ℕ) (call : Call) (count : ℕ) → values_of (codes "transfer-encoding")
    (pairs host call count) ≡ []
unfolding head_for fields_for depth_fields field values_of
not_coded host (calls.List dir) count = refl
not_coded host (calls.Get path) count = refl
not_coded host (calls.Put path content) count = refl
not_coded host (calls.Delete path) count = refl
not_coded host (calls.MakeDir dir) count = refl
not_coded host (calls.GetBlob id) count = refl
not_coded host (calls.PutBlob id len) count = refl

one_length : (host : List ℕ) (call : Call) (count : ℕ) → values_of (codes "content-length")
    (pairs host call count) ≡ trim_ows (32 ∷ decimal count) ∷ []
unfolding head_for fields_for depth_fields field values_of
one_length host (calls.List dir) count = refl
one_length host (calls.Get path) count = refl
one_length host (calls.Put path content) count = refl
one_length host (calls.Delete path) count = refl
one_length host (calls.MakeDir dir) count = refl
one_length host (calls.GetBlob id) count = refl
one_length host (calls.PutBlob id len) count = refl

no_connection : (host : List ℕ) (call : Call) (count : ℕ) → values_of (codes "connection")
    (pairs host call count) ≡ []
unfolding head_for fields_for depth_fields field values_of
no_connection host (calls.List dir) count = refl
no_connection host (calls.Get path) count = refl
no_connection host (calls.Put path content) count = refl
no_connection host (calls.Delete path) count = refl
no_connection host (calls.MakeDir dir) count = refl
no_connection host (calls.GetBlob id) count = refl
no_connection host (calls.PutBlob id len) count = refl

one_depth : (host : List ℕ) (dir : Dir) (count : ℕ)
    → values_of (codes "depth") (pairs host (calls.List dir) count) ≡ trim_ows (codes " 1") ∷ []
unfolding head_for fields_for depth_fields field values_of
one_depth host dir count = refl

one_deep : (host : List ℕ) (dir : Dir) (count : ℕ)
    → is_one (values_of (codes "depth") (pairs host (calls.List dir) count)) ≡ true
one_deep host dir count = ap is_one (one_depth host dir count)
    ∙ ap (λ (t : List ℕ). is_one (t ∷ [])) (trimmed (codes "1") refl)

small_limit : (target : List ℕ) → put_limit target ≤ 67_108_864
small_limit target = go (is_blob_target target)
  where
    go : (b : Bool) → cond b 67_108_864 16_777_216 ≤ 67_108_864
    go true = omega arith
    go false = omega arith

either_limit : (puts : Bool) (limit n : ℕ) → n ≤ limit → n ≤ 2 ^ 64 - 1
    → n ≤ cond puts limit (2 ^ 64 - 1)
either_limit true limit n a b = a
either_limit false limit n a b = b

asks_body : (host : List ℕ) (call : Call) (count : ℕ) → count ≤ put_limit (target_of call)
    → Body count ≡ framing_of (method_text (method_of call)) (target_of call)
    (pairs host call count)
asks_body host call count fits =
    let small : count < 2 ^ 64 = omega (arith, fits, small_limit (target_of call)) in
    let method = method_text (method_of call) in
    let puts = is_put method in
    let limit = put_limit (target_of call) in
    let given = cond puts limit (2 ^ 64 - 1) in
    let within : count ≤ given = either_limit puts limit count fits (omega (arith, small)) in
    let value : values_of (codes "content-length") (pairs host call count) ≡ decimal count ∷ [] =
    one_length host call count
    ∙ ap (λ (t : List ℕ). t ∷ []) (trimmed (decimal count) (decimal_visible count small)) in
    sym (cond-false (nat_lt given count) (Refused 413) (Body count) (le-ltb given count within))
    ∙ lengths_one puts limit given (values_of (codes "content-length") (pairs host call count))
    (decimal count) (Some count) value (sym (decimal_in-decimal count small)) refl
    ∙ framing_plain method (target_of call) (pairs host call count) (few_fields host call count)
    (not_coded host call count)

-- ---- what the request means

meant : (call : Call) (blob : List ℕ) → IsSendable call blob
    → AsksFor (method_of call) (target_of call) (body_of call blob) call (blob_of call blob)
meant (calls.List dir) blob h = record {
  sent_by = refl;
  sent_to = refl;
  takes = refl;
  callable =
      h.callable;
  ids = h.ids;
}
meant (calls.Get path) blob h = record {
  sent_by = refl;
  sent_to = refl;
  takes = refl;
  callable =
      h.callable;
  ids = h.ids;
}
meant (calls.Put path content) blob h = record {
  sent_by = refl;
  sent_to = refl;
  takes =
      (refl, refl);
  callable = h.callable;
  ids = h.ids;
}
meant (calls.Delete path) blob h = record {
  sent_by = refl;
  sent_to = refl;
  takes = refl;
  callable =
      h.callable;
  ids = h.ids;
}
meant (calls.MakeDir dir) blob h = record {
  sent_by = refl;
  sent_to = refl;
  takes = refl;
  callable =
      h.callable;
  ids = h.ids;
}
meant (calls.GetBlob id) blob h = record {
  sent_by = refl;
  sent_to = refl;
  takes = refl;
  callable =
      h.callable;
  ids = h.ids;
}
meant (calls.PutBlob id len) blob h = record {
  sent_by = refl;
  sent_to = refl;
  takes =
      (h.callable, refl);
  callable = h.callable;
  ids = h.ids;
}

is_request : (host : List ℕ) (call : Call) (blob : List ℕ) → IsSendable call blob
    → IsRequestFrom (method_text (method_of call)) (target_of call)
    (pairs host call (length (body_of call blob))) (body_of call blob) (request_for call blob)
is_request host (calls.List dir) blob h = record {
  meant = subst (λ (one : Bool). IsDecided (Some methods.List) one (dir_target dir) []
      (Some (calls.List dir)) [] 0) (sym (one_deep host dir 0))
      (meant (calls.List dir) blob h, refl);
  close = sym (ap (list_any (is_same_name (codes "close")))
      (no_connection host (calls.List dir) 0));
}
is_request host (calls.Get path) blob h =
    record {
      meant = (meant (calls.Get path) blob h, refl);
      close =
          sym (ap (list_any (is_same_name (codes "close"))) (no_connection host (calls.Get path)
          (length (body_of (calls.Get path) blob))));
    }
is_request host (calls.Put path content) blob h =
    record {
      meant = (meant (calls.Put path content) blob h, refl);
      close =
          sym (ap (list_any (is_same_name (codes "close"))) (no_connection host (calls.Put path content)
          (length (body_of (calls.Put path content) blob))));
    }
is_request host (calls.Delete path) blob h =
    record {
      meant = (meant (calls.Delete path) blob h, refl);
      close =
          sym (ap (list_any (is_same_name (codes "close"))) (no_connection host (calls.Delete path)
          (length (body_of (calls.Delete path) blob))));
    }
is_request host (calls.MakeDir dir) blob h =
    record {
      meant = (meant (calls.MakeDir dir) blob h, refl);
      close =
          sym (ap (list_any (is_same_name (codes "close"))) (no_connection host (calls.MakeDir dir)
          (length (body_of (calls.MakeDir dir) blob))));
    }
is_request host (calls.GetBlob id) blob h =
    record {
      meant = (meant (calls.GetBlob id) blob h, refl);
      close =
          sym (ap (list_any (is_same_name (codes "close"))) (no_connection host (calls.GetBlob id)
          (length (body_of (calls.GetBlob id) blob))));
    }
is_request host (calls.PutBlob id len) blob h =
    record {
      meant = (meant (calls.PutBlob id len) blob h, refl);
      close =
          sym (ap (list_any (is_same_name (codes "close"))) (no_connection host (calls.PutBlob id len)
          (length (body_of (calls.PutBlob id len) blob))));
    }

pub sent_is_read : (host : List ℕ) (call : Call) (blob more : List ℕ) → IsHost host
    → IsSendable call blob → RequestReadsAs (request_text host call blob ++ more)
    (Whole (request_for call blob) (length (request_text host call blob)))
unfolding head_for
sent_is_read host call blob more h sends =
    let body = body_of call blob in
    let count = length body in
    let head = head_for host call count in
    let small : count < 2 ^ 64 = omega (arith, sends.fits, small_limit (target_of call)) in
    let whole : length (request_text host call blob) ≡ length (print_request head) + count =
    omega (
      arith,
      ap (λ (t : List ℕ). length t) (text_is host call blob []),
      length-append
          (request_text host call blob) [],
      length-append (print_request head)
          (body ++ []),
      length-append body [],
    ) in (
      head,
      body ++ more,
      record {
        reads = (head_fits host call count h sends.ids small, text_is host call blob more);
        short = head_short host call blob h sends.ids small;
      },
      (
        count,
        sym (asks_body host call count sends.fits),
        omega (arith, length-append body more),
        subst (λ (b : List ℕ). IsRequestFrom (method_text (method_of call)) (target_of call)
            (pairs host call count) b (request_for call blob)) (sym (take_at body more count refl))
            (is_request host call blob sends),
        whole,
      ),
    )

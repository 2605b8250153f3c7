-- The bytes so far read as one thing.
use Rattle.std.proofs.Common.{◌≡◌, ℕ, ◌-◌, ◌⊎◌, List, ◌++◌, length, take, Bool, true, false, Option, Some, None, refl, sym, ap, subst, ◌∙◌, arith, inl, inr}
use Rattle.std.specs.Prelude.{codes}
use Rattle.std.proofs.lemmas.Bool.{false≢true}
use Rattle.httparse.specs.Grammar.{RequestHead, print_request}
use Rattle.httparse.proofs.GrammarLemmas.{request_unique}
use Rattle.jop_base.specs.declared.path.Path.{Path}
use Rattle.jop_base.specs.declared.path.Path.TheVariants.{Blob}
use Rattle.jop_target.specs.Replies.{names_blob}
use Rattle.jop_target.specs.declared.call.Call.{Call}
use Rattle.jop_target.specs.declared.call.Call.TheVariants as calls
use Rattle.dav_parts.proofs.PathLemmas.{path_target_unique, dir_target_unique}
use Rattle.dav_parts.specs.Fields.{Fields, values_of}
use Rattle.dav_parts.specs.Targets.{method_in}
use Rattle.dav_parts.specs.declared.method.Method.{Method}
use Rattle.dav_parts.specs.declared.method.Method.TheVariants as methods
use Rattle.dav_wire.specs.Requests.{AsksFor, IsCallOrRefusal, IsRefusedBy, IsDecided, IsRequestFrom, is_one}
use Rattle.dav_wire.specs.RequestReading.{RequestBodyReadsAs, RequestHeadReadsAs, RequestReadsAs, IsUnfinished, IsUnreadable, fields_of}
use Rattle.dav_wire.specs.declared.request.Request.{Request}
use Rattle.dav_wire.specs.declared.request_reader.ReadRequest.{ReadRequest}
use Rattle.dav_wire.specs.declared.request_reader.ReadRequest.TheVariants.{Whole, More, Bad}
use Rattle.dav_wire.proofs.RequestStream.{take_both, whole_stays, bad_stays}

-- ---- one call is asked for

-- a file that is no blob and a blob have two targets
blob_apart : (path : Path) (id : List ℕ) → names_blob path ≡ false → path ≡ Blob id → ⊥
blob_apart path id plain e = false≢true (sym plain ∙ ap names_blob e)

module _ (method : Method) (target body : List ℕ) where
  asks_unique : (c d : Call) (b e : List ℕ) → AsksFor method target body c b
      → AsksFor method target body d e → (c ≡ d) × (b ≡ e)
  asks_unique (calls.List p) (calls.List q) b e h k = (
    ap (λ x. calls.List x) (dir_target_unique p q (h.sent_to ∙ sym k.sent_to)),
    h.takes ∙ sym k.takes,
  )
  asks_unique (calls.MakeDir p) (calls.MakeDir q) b e h k = (
    ap (λ x. calls.MakeDir x) (dir_target_unique p q (h.sent_to ∙ sym k.sent_to)),
    h.takes ∙ sym k.takes,
  )
  asks_unique (calls.Get p) (calls.Get q) b e h k = (
    ap (λ x. calls.Get x) (path_target_unique p q h.ids k.ids (h.sent_to ∙ sym k.sent_to)),
    h.takes ∙ sym k.takes,
  )
  asks_unique (calls.Get p) (calls.GetBlob id) b e h k =
      absurd (blob_apart p id h.callable
      (path_target_unique p (Blob id) h.ids k.ids (h.sent_to ∙ sym k.sent_to)))
  asks_unique (calls.GetBlob id) (calls.Get q) b e h k =
      absurd (blob_apart q id k.callable
      (path_target_unique q (Blob id) k.ids h.ids (k.sent_to ∙ sym h.sent_to)))
  asks_unique (calls.GetBlob i) (calls.GetBlob j) b e h k =
      let same = path_target_unique (Blob i) (Blob j) h.ids k.ids (h.sent_to ∙ sym k.sent_to) in
      let id : i ≡ j = cc in
      (ap (λ x. calls.GetBlob x) id, h.takes ∙ sym k.takes)
  asks_unique (calls.Delete p) (calls.Delete q) b e h k = (
    ap (λ x. calls.Delete x) (path_target_unique p q h.ids k.ids (h.sent_to ∙ sym k.sent_to)),
    h.takes ∙ sym k.takes,
  )
  asks_unique (calls.Put p x) (calls.Put q y) b e h k =
      let path = path_target_unique p q h.ids k.ids (h.sent_to ∙ sym k.sent_to) in
      let content = h.takes.0 ∙ sym k.takes.0 in
      (λ i. calls.Put (path i) (content i), h.takes.1 ∙ sym k.takes.1)
  asks_unique (calls.Put p x) (calls.PutBlob id len) b e h k =
      absurd (blob_apart p id h.callable
      (path_target_unique p (Blob id) h.ids k.ids (h.sent_to ∙ sym k.sent_to)))
  asks_unique (calls.PutBlob id len) (calls.Put q y) b e h k =
      absurd (blob_apart q id k.callable
      (path_target_unique q (Blob id) k.ids h.ids (k.sent_to ∙ sym h.sent_to)))
  asks_unique (calls.PutBlob i m) (calls.PutBlob j n) b e h k =
      let same = path_target_unique (Blob i) (Blob j) h.ids k.ids (h.sent_to ∙ sym k.sent_to) in
      let id : i ≡ j = cc in
      let len = h.takes.0 ∙ sym k.takes.0 in
      (λ x. calls.PutBlob (id x) (len x), h.takes.1 ∙ sym k.takes.1)
  asks_unique c d b e h k = absurd (cc (h.sent_by, k.sent_by))

  call_unique : (c d : Option Call) (b e : List ℕ) (x y : ℕ)
      → IsCallOrRefusal method target body c b x → IsCallOrRefusal method target body d e y
      → (c ≡ d) × (b ≡ e) × (x ≡ y)
  call_unique (Some c) (Some d) b e x y h k =
      let same = asks_unique c d b e h.0 k.0 in
      (ap (λ (z : Call). Some z) same.0, same.1, h.1 ∙ sym k.1)
  call_unique (Some c) None b e x y h k = absurd (k.0 c b h.0)
  call_unique None (Some d) b e x y h k = absurd (h.0 d e k.0)
  call_unique None None b e x y h k = (refl, h.1 ∙ sym k.1, h.2 ∙ sym k.2)

refusal_unique : (status : ℕ) (c d : Option Call) (b e : List ℕ) (x y : ℕ)
    → IsRefusedBy status c b x → IsRefusedBy status d e y → (c ≡ d) × (b ≡ e) × (x ≡ y)
refusal_unique status (Some c) d b e x y h k = absurd h
refusal_unique status None (Some d) b e x y h k = absurd k
refusal_unique status None None b e x y h k = (refl, h.0 ∙ sym k.0, h.1 ∙ sym k.1)

decided_unique : (m : Option Method) (one : Bool) (target body : List ℕ) (c d : Option Call)
    (b e : List ℕ) (x y : ℕ) → IsDecided m one target body c b x
    → IsDecided m one target body d e y → (c ≡ d) × (b ≡ e) × (x ≡ y)
decided_unique None one target body c d b e x y h k = refusal_unique 405 c d b e x y h k
decided_unique (Some methods.List) true target body c d b e x y h k =
    call_unique methods.List target body c d b e x y h k
decided_unique (Some methods.List) false target body c d b e x y h k =
    refusal_unique 400 c d b e x y h k
decided_unique (Some methods.Get) one target body c d b e x y h k =
    call_unique methods.Get target body c d b e x y h k
decided_unique (Some methods.Put) one target body c d b e x y h k =
    call_unique methods.Put target body c d b e x y h k
decided_unique (Some methods.Delete) one target body c d b e x y h k =
    call_unique methods.Delete target body c d b e x y h k
decided_unique (Some methods.MakeDir) one target body c d b e x y h k =
    call_unique methods.MakeDir target body c d b e x y h k

request_from_unique : (method target : List ℕ) (fields : Fields) (body : List ℕ) (r s : Request)
    → IsRequestFrom method target fields body r → IsRequestFrom method target fields body s
    → r ≡ s
request_from_unique method target fields body r s h k =
    let same = decided_unique (method_in method) (is_one (values_of (codes "depth") fields)) target
    body r.call s.call r.blob s.blob r.refusal s.refusal h.meant k.meant in
    let close = h.close ∙ sym k.close in
    λ i. record { call = same.0 i; blob = same.1 i; close = close i; refusal = same.2 i }

-- ---- one thing is read

module _ (method target : List ℕ) (fields : Fields) (rest : List ℕ) (len : ℕ) where
  body_unique : (a b : ReadRequest) → RequestBodyReadsAs method target fields rest len a
      → RequestBodyReadsAs method target fields rest len b → a ≡ b
  body_unique More More h k = refl
  body_unique More (Bad s) h k = let body = h.1 in absurd (cc)
  body_unique More (Whole r u) h k =
      let n : h.0 ≡ k.0 = cc (h.1, k.1) in absurd (omega (arith, n, h.2, k.2))
  body_unique (Bad s) More h k = let body = k.1 in absurd (cc)
  body_unique (Bad s) (Bad t) h k = let status : s ≡ t = cc in ap (λ (x : ℕ). Bad x) status
  body_unique (Bad s) (Whole r u) h k = let body = k.1 in absurd (cc)
  body_unique (Whole r u) More h k =
      let n : h.0 ≡ k.0 = cc (h.1, k.1) in absurd (omega (arith, n, h.2, k.2))
  body_unique (Whole r u) (Bad t) h k = let body = h.1 in absurd (cc)
  body_unique (Whole r u) (Whole s v) h k =
      let n : h.0 ≡ k.0 = cc (h.1, k.1) in
      let there : IsRequestFrom method target fields (take h.0 rest) s =
      subst (λ (m : ℕ). IsRequestFrom method target fields (take m rest) s) (sym n) k.3 in
      let request = request_from_unique method target fields (take h.0 rest) r s h.3 there in
      let used : u ≡ v = omega (arith, n, h.4, k.4) in
      λ i. Whole (request i) (used i)

abbrev ReadsBody : RequestHead → List ℕ → ReadRequest → Type 0
ReadsBody head rest read =
    RequestBodyReadsAs head.method head.target (fields_of head) rest (length (print_request head))
    read

heads_unique : (bytes : List ℕ) (a b : ReadRequest) → RequestHeadReadsAs bytes a
    → RequestHeadReadsAs bytes b → a ≡ b
heads_unique bytes a b h k =
    let same = request_unique bytes k.0 h.0 k.1 h.1 k.2.reads h.2.reads in
    let head = subst (λ (x : RequestHead). ReadsBody x k.1 b) same.0 k.3 in
    let here = subst (λ (r : List ℕ). ReadsBody h.0 r b) same.1 head in
    body_unique h.0.method h.0.target (fields_of h.0) h.1 (length (print_request h.0)) a b h.3 here

not_unfinished : (bytes : List ℕ) (a : ReadRequest) → RequestHeadReadsAs bytes a
    → IsUnfinished bytes → ⊥
not_unfinished bytes a h o = o.none h.0 h.1 h.2.reads

not_unreadable : (bytes : List ℕ) (a : ReadRequest) → RequestHeadReadsAs bytes a
    → IsUnreadable bytes → ⊥
not_unreadable bytes a h l =
    l.none h.0 (take (16384 - length (print_request h.0)) h.1)
    (h.2.reads.0, ap (take 16384) h.2.reads.1 ∙ take_both 16384 (print_request h.0) h.1 h.2.short)

unfinished_or_not : (bytes : List ℕ) → IsUnfinished bytes → IsUnreadable bytes → ⊥
unfinished_or_not bytes o l = elim l.never [
  | inl full ↦ omega (arith, full, o.short)
  | inr never ↦ never o.may
]

abbrev Cases : List ℕ → ReadRequest → Type 0
Cases bytes a =
    RequestHeadReadsAs bytes a
    ⊎ ((IsUnfinished bytes × (a ≡ More)) ⊎ (IsUnreadable bytes × (a ≡ Bad 400)))

cases : (bytes : List ℕ) (a : ReadRequest) → RequestReadsAs bytes a → Cases bytes a
cases bytes (Whole request used) h = inl h
cases bytes More (inl h) = inl h
cases bytes More (inr o) = inr (inl (o, refl))
cases bytes (Bad status) (inl h) = inl h
cases bytes (Bad status) (inr l) = inr (inr (l.0, ap (λ (s : ℕ). Bad s) l.1))

cases_unique : (bytes : List ℕ) (a b : ReadRequest) → Cases bytes a → Cases bytes b → a ≡ b
cases_unique bytes a b (inl h) (inl k) = heads_unique bytes a b h k
cases_unique bytes a b (inl h) (inr (inl o)) = absurd (not_unfinished bytes a h o.0)
cases_unique bytes a b (inl h) (inr (inr l)) = absurd (not_unreadable bytes a h l.0)
cases_unique bytes a b (inr (inl o)) (inl k) = absurd (not_unfinished bytes b k o.0)
cases_unique bytes a b (inr (inl o)) (inr (inl p)) = o.1 ∙ sym p.1
cases_unique bytes a b (inr (inl o)) (inr (inr l)) = absurd (unfinished_or_not bytes o.0 l.0)
cases_unique bytes a b (inr (inr l)) (inl k) = absurd (not_unreadable bytes b k l.0)
cases_unique bytes a b (inr (inr l)) (inr (inl o)) = absurd (unfinished_or_not bytes o.0 l.0)
cases_unique bytes a b (inr (inr l)) (inr (inr m)) = l.1 ∙ sym m.1

pub one_read : (bytes : List ℕ) (a b : ReadRequest) → RequestReadsAs bytes a
    → RequestReadsAs bytes b → a ≡ b
one_read bytes a b h k = cases_unique bytes a b (cases bytes a h) (cases bytes b k)

-- ---- any cut

pub cut_reads : (prefix rest : List ℕ) (early late : ReadRequest) → RequestReadsAs prefix early
    → RequestReadsAs (prefix ++ rest) late → (early ≡ More) ⊎ (early ≡ late)
cut_reads prefix rest More late h k = inl refl
cut_reads prefix rest (Whole request used) late h k =
    inr (one_read (prefix ++ rest) (Whole request used) late
    (whole_stays prefix rest request used h) k)
cut_reads prefix rest (Bad status) late h k =
    inr (one_read (prefix ++ rest) (Bad status) late (bad_stays prefix rest status h) k)

-- The JSON of what an info keeps.
use Rattle.std.proofs.Common.{◌≡◌, ℕ, ◌+◌, ◌<◌, ◌≤◌, List, [], ◌∷◌, ◌++◌, map, length, take, drop, get_or, true, false, cond, Some, unwrap_or, Ordering, Less, Equal, Greater, refl, sym, ap, ap₂, ◌∙◌, subst, arith}
use Rattle.std.proofs.lemmas.Bool.{and_parts, or_from, cond-true, cond-false}
use Rattle.std.proofs.lemmas.Cmp.{nat_list_cmp_total}
use Rattle.std.proofs.lemmas.List.{take_more, drop_more, take-append-drop}
use Rattle.std.proofs.lemmas.Map.Text.{is_eq-slice_cmp}
use Rattle.std.proofs.lemmas.Slice.Eq.{bytes_eq-Decides}
use Rattle.std.specs.Cmp.Lexicographic.{slice_cmp}
use Rattle.std.specs.List.{AllByRecursion, list_all}
use Rattle.std.specs.List.Sorted.{IsStrictlySortedBy}
use Rattle.std.specs.Ordering.{nat_cmp, match_ordering, ordering_reverse, is_eq}
use Rattle.serde_json.specs.Data.{Data, null, no_items, item, Members, no_members, member, put, depth, members_depth}
use Rattle.serde_json.specs.Read.{read}
use Rattle.serde_json.specs.View.{view, items_view}
use Rattle.serde_json.specs.Written.{has_float, members_have_float, compact_text}
use Rattle.serde_json.specs.declared.value.Value.{Value}
use Rattle.sync_info.specs.Info.{is_own_member, IsCompact}
use Rattle.sync_info.specs.Json.{value_in, members_of, put_all, record_json, records_json}
use Rattle.sync_info.specs.Read.{kept_of}
use Rattle.sync_info.specs.declared.holder.Holder.{Holder}
use Rattle.sync_info.specs.declared.key_record.KeyRecord.{KeyRecord}
use Rattle.sync_info.specs.declared.member.Member.{Member}

-- ---- a kept value

pub value_in-read : (json : List ℕ) (d : Data) → read json ≡ Some d → d ≡ value_in json
unfolding value_in
value_in-read json d reads = sym (ap (λ found. unwrap_or found null) reads)

value_of : {limit : ℕ} {json : List ℕ} → (c : IsCompact limit json) → c.value ≡ value_in json
value_of c = value_in-read _ c.value c.reads

compact_text-value_in : (limit : ℕ) (json : List ℕ) → IsCompact limit json
    → compact_text (value_in json) ≡ json
compact_text-value_in limit json c = ap compact_text (sym (value_of c)) ∙ c.compact

whole-value_in : (limit : ℕ) (json : List ℕ) → IsCompact limit json
    → has_float (value_in json) ≡ false
whole-value_in limit json c = ap has_float (sym (value_of c)) ∙ c.whole

depth-value_in : (limit : ℕ) (json : List ℕ) → IsCompact limit json → depth (value_in json) ≤ limit
depth-value_in limit json c = subst (λ (d : Data). depth d ≤ limit) (value_of c) c.shallow

-- ---- kept members

pub whole-members_of : (limit : ℕ) (ms : List Member)
    → AllByRecursion (λ m. IsCompact limit m.json) ms → members_have_float (members_of ms) ≡ false
whole-members_of limit [] compact = refl
whole-members_of limit (m ∷ ms) compact =
    or_from (has_float (value_in m.json)) _ (whole-value_in limit m.json compact.0)
    (whole-members_of limit ms compact.1)

pub depth-members_of : (limit : ℕ) (ms : List Member)
    → AllByRecursion (λ m. IsCompact limit m.json) ms → members_depth (members_of ms) ≤ limit
depth-members_of limit [] compact = omega arith
depth-members_of limit (m ∷ ms) compact =
    let here = depth-value_in limit m.json compact.0 in
    let rest = depth-members_of limit ms compact.1 in
    omega arith

-- what was kept is kept when it is read again
pub kept_of-members_of : (of : Holder) (limit : ℕ) (ms : List Member)
    → AllByRecursion (λ m. is_own_member of m.name ≡ false) ms
    → AllByRecursion (λ m. IsCompact limit m.json) ms → kept_of of (members_of ms) ≡ ms
kept_of-members_of of limit [] foreign compact = refl
kept_of-members_of of limit (m ∷ ms) foreign compact =
    cond-false (is_own_member of m.name) _ _ foreign.0
    ∙ ap (λ json. record { name = m.name; json = json } ∷ kept_of of (members_of ms))
    (compact_text-value_in limit m.json compact.0)
    ∙ ap (λ more. m ∷ more) (kept_of-members_of of limit ms foreign.1 compact.1)

-- ---- an own member among them

same_name : (k l : List ℕ) → slice_cmp nat_cmp k l ≡ Equal → k ≡ l
same_name k l equal = (bytes_eq-Decides k l).0 (sym (is_eq-slice_cmp k l) ∙ ap is_eq equal)

kept_of-put_at : (of : Holder) (o : Ordering) (k l : List ℕ) (d e : Data) (ms : Members)
    → slice_cmp nat_cmp k l ≡ o → is_own_member of k ≡ true
    → kept_of of (put k d ms) ≡ kept_of of ms
    → kept_of of
    (match_ordering o (member k d (member l e ms)) (member l d ms) (member l e (put k d ms)))
    ≡ kept_of of (member l e ms)
kept_of-put_at of Less k l d e ms is own later = cond-true (is_own_member of k) _ _ own
kept_of-put_at of Equal k l d e ms is own later =
    let own_too : is_own_member of l ≡ true = ap (is_own_member of) (sym (same_name k l is))
    ∙ own in
    cond-true (is_own_member of l) _ _ own_too ∙ sym (cond-true (is_own_member of l) _ _ own_too)
kept_of-put_at of Greater k l d e ms is own later =
    ap (λ more. cond (is_own_member of l) more (record { name = l; json = compact_text e } ∷ more))
    later

kept_of-put : (of : Holder) (k : List ℕ) (d : Data) (ms : Members) → is_own_member of k ≡ true
    → kept_of of (put k d ms) ≡ kept_of of ms
kept_of-put of k d no_members own = cond-true (is_own_member of k) _ _ own
kept_of-put of k d (member l e ms) own =
    kept_of-put_at of _ k l d e ms refl own (kept_of-put of k d ms own)

pub kept_of-put_all : (of : Holder) (own : List (List ℕ × Data)) (ms : Members)
    → list_all (λ m. is_own_member of m.0) own ≡ true → kept_of of (put_all own ms) ≡ kept_of of ms
kept_of-put_all of [] ms all = refl
kept_of-put_all of (m ∷ own) ms all =
    let parts = and_parts (is_own_member of m.0) (list_all (λ m. is_own_member of m.0) own) all in
    kept_of-put of m.0 m.1 (put_all own ms) parts.0 ∙ kept_of-put_all of own ms parts.1

-- ---- one kept member more

below_middle : (first : List ℕ) (ms : List Member) (m : Member) (more : List Member)
    → AllByRecursion (λ name. slice_cmp nat_cmp first name ≡ Less)
    (map (λ m. m.name) (ms ++ m ∷ more)) → slice_cmp nat_cmp first m.name ≡ Less
below_middle first [] m more above = above.0
below_middle first (x ∷ ms) m more above = below_middle first ms m more above.1

put_last : (ms : List Member) (m : Member) (more : List Member)
    → IsStrictlySortedBy (slice_cmp nat_cmp) (map (λ m. m.name) (ms ++ m ∷ more))
    → put m.name (value_in m.json) (members_of ms) ≡ members_of (ms ++ m ∷ [])
unfolding IsStrictlySortedBy
put_last [] m more sorted = refl
put_last (first ∷ ms) m more sorted =
    let above : slice_cmp nat_cmp m.name first.name ≡ Greater =
    nat_list_cmp_total.antisymm m.name first.name
    ∙ ap ordering_reverse (below_middle first.name ms m more sorted.0) in
    rw above (ap (member first.name (value_in first.json)) (put_last ms m more sorted.1))

pub members_of-more : (ms : List Member) (i : ℕ) (m : Member) → i < length ms → m ≡ get_or ms i m
    → IsStrictlySortedBy (slice_cmp nat_cmp) (map (λ m. m.name) ms)
    → put m.name (value_in m.json) (members_of (take i ms)) ≡ members_of (take (i + 1) ms)
members_of-more ms i m within is sorted =
    let parts : ms ≡ take i ms ++ m ∷ drop (i + 1) ms =
    sym (take-append-drop i ms)
    ∙ ap (λ more. take i ms ++ more)
    (drop_more ms i m within ∙ ap (λ x. x ∷ drop (i + 1) ms) (sym is)) in
    put_last (take i ms) m (drop (i + 1) ms)
    (subst (λ (all : List Member). IsStrictlySortedBy (slice_cmp nat_cmp) (map (λ m. m.name) all))
    parts sorted)
    ∙ ap members_of (sym (take_more ms i m within ∙ ap (λ x. take i ms ++ x ∷ []) (sym is)))

-- ---- one record more

items_of-push : (vs : List Value) (ks : List KeyRecord) (v : Value) (k : KeyRecord)
    → items_view vs ≡ records_json ks → view v ≡ record_json k
    → items_view (vs ++ v ∷ []) ≡ records_json (ks ++ k ∷ [])
items_of-push [] [] v k same here = ap (λ d. item d no_items) here
items_of-push [] (l ∷ ks) v k same here = absurd (cc)
items_of-push (w ∷ vs) [] v k same here = absurd (cc)
items_of-push (w ∷ vs) (l ∷ ks) v k same here =
    let first : view w ≡ record_json l = cc in
    let rest : items_view vs ≡ records_json ks = cc in
    ap₂ item first (items_of-push vs ks v k rest here)

pub records_json-more : (vs : List Value) (ks : List KeyRecord) (i : ℕ) (v : Value) (k : KeyRecord)
    → i < length ks → k ≡ get_or ks i k → items_view vs ≡ records_json (take i ks)
    → view v ≡ record_json k
    → items_view (vs ++ v ∷ []) ≡ records_json (take (i + 1) ks)
records_json-more vs ks i v k within is so_far here =
    items_of-push vs (take i ks) v k so_far here
    ∙ ap records_json (sym (take_more ks i k within ∙ ap (λ x. take i ks ++ x ∷ []) (sym is)))

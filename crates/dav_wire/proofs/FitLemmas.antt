-- The reply that is read is one that the call may be answered.
use Rattle.std.proofs.Common.{ap, ◌≡◌, ℕ, ◌*◌, ◌<◌, ◌≤◌, ◌==◌, List, [], ◌∷◌, length, take, Bool, true, false, cond, Option, Some, None, refl, sym, subst, arith}
use Rattle.std.specs.Prelude.{All, not, ◌||◌, codes, nat_lt, option_map, option_and_then}
use Rattle.std.proofs.lemmas.Bool.{ltb-false, ltb-true}
use Rattle.std.proofs.lemmas.List.{length-take}
use Rattle.std.proofs.lemmas.List.Elements.{All-cons, All-nil}
use Rattle.httpdate.specs.Date.{unix_secs, parse_secs, valid_secs}
use Rattle.httpdate.specs.Valid.{IsValid, is_valid, parts_secs}
use Rattle.httpdate.specs.Reader.{parse}
use Rattle.httpdate.specs.declared.date.HttpDate.{HttpDate}
use Rattle.httpdate.specs.declared.parts.Parts.{Parts}
use Rattle.httpdate.proofs.CalendarLemmas.{days_from_civil_bound}
use Rattle.httpdate.proofs.ValidLemmas.{is_valid_sound}
use Rattle.httparse.specs.Grammar.{print_response, status_code}
use Rattle.std.specs.Ordering.{is_lt}
use Rattle.std.specs.declared.cmp.Ordering.TheVariants.{Less}
use Rattle.jop_base.specs.Keyed.{text_lt}
use Rattle.jop_base.specs.Order.{path_cmp}
use Rattle.jop_base.specs.Paths.{IsPath, dir_of, path_text}
use Rattle.jop_base.specs.declared.dir.Dir.{Dir}
use Rattle.jop_base.specs.declared.path.Path.{Path}
use Rattle.jop_base.specs.declared.time.TheConstants.{MAX_TIME}
use Rattle.jop_target.specs.Store.{limit_of}
use Rattle.jop_target.specs.Replies.{IsRising, IsReplyTo}
use Rattle.jop_target.specs.declared.call.Call.{Call}
use Rattle.jop_target.specs.declared.call.Call.TheVariants as calls
use Rattle.jop_target.specs.declared.reply.Entry.{Entry}
use Rattle.jop_target.specs.declared.reply.Reply.{Reply}
use Rattle.jop_target.specs.declared.reply.Reply.TheVariants as replies
use Rattle.dav_parts.specs.Fields.{Fields, values_of}
use Rattle.dav_parts.specs.Multistatus.{ReadsLines}
use Rattle.dav_wire.specs.Requests.{is_none}
use Rattle.dav_wire.specs.ResponseFrames.{outcome_of, now_of, body_count, is_too_long, frame_from, frame_of}
use Rattle.dav_wire.specs.ResponseReading.{IsReplyOf, ResponseBodyReadsAs, ResponseReadsAs, fields_of}
use Rattle.dav_wire.specs.declared.frame.Frame.TheVariants.{Unreadable, TooLong, Body}
use Rattle.dav_wire.specs.declared.outcome.Outcome.{Outcome}
use Rattle.dav_wire.specs.declared.outcome.Outcome.TheVariants as outcomes
use Rattle.dav_wire.specs.declared.response_reader.ReadResponse.TheVariants.{Whole}

-- ---- moments

parts_bound : (p : Parts) → IsValid p → parts_secs p < 253_402_300_800
parts_bound p h = omega (arith, days_from_civil_bound p.year p.mon p.day h.0, h.1.0, h.1.1, h.1.2)

date_bound : (date : HttpDate) → unix_secs date < 253_402_300_800
date_bound date = parts_bound date.parts (date.civil, date.time, date.right_day)

secs_bound : (text : List ℕ) (secs : ℕ) → parse_secs text ≡ Some secs → secs < 253_402_300_800
secs_bound text secs h = read (parse text) h
  where
    kept : (p : Parts) (b : Bool) → is_valid p ≡ b → cond b (Some (parts_secs p)) None ≡ Some secs
        → secs < 253_402_300_800
    kept p true valid e = let same : parts_secs p ≡ secs = cc e in
        omega (arith, parts_bound p (is_valid_sound p valid))
    kept p false valid e = absurd (cc e)

    read : (o : Option Parts) → option_and_then valid_secs o ≡ Some secs → secs < 253_402_300_800
    read None e = absurd (cc e)
    read (Some p) e = kept p (is_valid p) refl e

now_bound : (values : List (List ℕ)) (now : ℕ) → now_of values ≡ Some now → now ≤ MAX_TIME
now_bound [] now h = absurd (cc h)
now_bound (value ∷ other ∷ values) now h = absurd (cc h)
now_bound (value ∷ []) now h = go (parse_secs value) refl h
  where
    go : (o : Option ℕ) → parse_secs value ≡ o → option_map (λ secs. secs * 1_000) o ≡ Some now
        → now ≤ MAX_TIME
    go None is e = absurd (cc e)
    go (Some secs) is e = let same : secs * 1_000 ≡ now = cc e in
        omega (arith, secs_bound value secs is)

-- ---- listings

record Lists (dir : Dir) (entries : List Entry) : Type 0 where
  inside : All (λ (e : Entry). dir_of e.path ≡ dir) entries
  stamps : All (λ (e : Entry). e.stamp ≤ MAX_TIME) entries
  rising : IsRising entries
  paths : All (λ (e : Entry). IsPath e.path) entries

-- the order of paths is that of their texts
text_before : (p q : Path) → path_cmp p q ≡ Less → text_lt (path_text p) (path_text q) ≡ true
unfolding path_cmp
text_before p q h = ap is_lt h

lists : (dir : Dir) (before : Option Entry) (entries : List Entry) (text : List ℕ)
    → ReadsLines dir before entries text → Lists dir entries
lists dir before [] text h = record {
  inside = All-nil (λ (e : Entry). dir_of e.path ≡ dir);
  stamps = All-nil (λ (e : Entry). e.stamp ≤ MAX_TIME);
  rising = tt;
  paths = All-nil (λ (e : Entry). IsPath e.path);
}
lists dir before (e ∷ []) text h = record {
  inside = All-cons (λ (x : Entry). dir_of x.path ≡ dir) e [] h.1.2.inside
      (All-nil (λ (x : Entry). dir_of x.path ≡ dir));
  stamps = All-cons (λ (x : Entry). x.stamp ≤ MAX_TIME) e []
      (omega (arith, h.1.2.stamp, date_bound h.1.2.date))
      (All-nil (λ (x : Entry). x.stamp ≤ MAX_TIME));
  rising = (tt, tt);
  paths = All-cons (λ (x : Entry). IsPath x.path) e [] h.1.2.path
      (All-nil (λ (x : Entry). IsPath x.path));
}
lists dir before (e ∷ f ∷ entries) text h =
    let rest = lists dir (Some e) (f ∷ entries) h.0 h.3 in
    record {
      inside = All-cons (λ (x : Entry). dir_of x.path ≡ dir) e (f ∷ entries) h.1.2.inside
          rest.inside;
      stamps = All-cons (λ (x : Entry). x.stamp ≤ MAX_TIME) e (f ∷ entries)
          (omega (arith, h.1.2.stamp, date_bound h.1.2.date)) rest.stamps;
      rising = (text_before e.path f.path h.3.2, rest.rising);
      paths = All-cons (λ (x : Entry). IsPath x.path) e (f ∷ entries) h.1.2.path rest.paths;
    }

-- ---- replies

-- what such an outcome tells fits the call
record Fits (call : Call) (outcome : Outcome) : Type 0 where
  told : (now count : ℕ) (body : List ℕ) (reply : Reply) (blob : List ℕ) → now ≤ MAX_TIME
      → length body ≤ count → is_too_long outcome count ≡ false
      → IsReplyOf now outcome body reply blob → IsReplyTo call reply
  long : (count : ℕ) → is_too_long outcome count ≡ true → IsReplyTo call (replies.TooLarge count)

listing_told : (dir : Dir) (now : ℕ) (body : List ℕ) (reply : Reply) (blob : List ℕ)
    → now ≤ MAX_TIME → IsReplyOf now (outcomes.Listing dir) body reply blob
    → IsReplyTo (calls.List dir) reply
listing_told dir now body (replies.Listed l) blob small h =
    let all = lists dir None l.entries h.1.0 h.1.2 in
    let moment : l.now ≡ now = h.0 in
    let early : l.now ≤ MAX_TIME = omega (arith, moment, small) in
    assumption (early, all.inside, all.stamps, all.rising, all.paths)
listing_told dir now body reply blob small h = absurd h

fits_listing : (dir : Dir) → Fits (calls.List dir) (outcomes.Listing dir)
fits_listing dir = record {
  told = λ now count body reply blob small short lower h.
      listing_told dir now body reply blob small h;
  long = λ count yes. absurd (cc yes);
}

fits_other : (call : Call) → Fits call outcomes.Other
fits_other call = record {
  told = λ now count body reply blob small short lower h. absurd h;
  long =
      λ count yes. absurd (cc yes);
}

fits_done : (call : Call) → ((now : ℕ) → now ≤ MAX_TIME → IsReplyTo call (replies.Done now))
    → Fits call outcomes.Done
fits_done call may = record {
  told = λ now count body reply blob small short lower h.
      subst (λ (r : Reply). IsReplyTo call r) (sym h.0) (may now small);
  long = λ count yes.
      absurd (cc yes);
}

fits_absent : (call : Call) → ((now : ℕ) → now ≤ MAX_TIME → IsReplyTo call (replies.Absent now))
    → Fits call outcomes.Absent
fits_absent call may = record {
  told = λ now count body reply blob small short lower h.
      subst (λ (r : Reply). IsReplyTo call r) (sym h.0) (may now small);
  long = λ count yes.
      absurd (cc yes);
}

fits_content : (path : Path) → Fits (calls.Get path) (outcomes.Content (limit_of path))
fits_content path = record {
  told = λ now count body reply blob small short lower h.
      subst (λ (r : Reply). IsReplyTo (calls.Get path) r) (sym h.0)
      (small, omega (arith, short, ltb-false (limit_of path) count lower));
  long = λ count yes. ltb-true (limit_of path) count yes;
}

fits_blob : (id : List ℕ) → Fits (calls.GetBlob id) outcomes.Blob
fits_blob id = record {
  told = λ now count body reply blob small short lower h.
      subst (λ (r : Reply). IsReplyTo (calls.GetBlob id) r) (sym h.0)
      (small, omega (arith, short, ltb-false 67_108_864 count lower));
  long = λ count yes. ltb-true 67_108_864 count yes;
}

either : (call : Call) (b : Bool) (o p : Outcome) → Fits call o → Fits call p
    → Fits call (cond b o p)
either call true o p h k = h
either call false o p h k = k

outcome_fits : (call : Call) (status : ℕ) → Fits call (outcome_of call status)
outcome_fits (calls.List dir) status = either (calls.List dir) (status == 207)
    (outcomes.Listing dir) outcomes.Other (fits_listing dir) (fits_other (calls.List dir))
outcome_fits (calls.Get path) status = either (calls.Get path) (status == 200) _ _
    (fits_content path) (either (calls.Get path) (status == 404) _ _ (fits_absent (calls.Get path)
    (λ now h. h)) (fits_other (calls.Get path)))
outcome_fits (calls.Put path content) status = either (calls.Put path content)
    ((status == 201) || (status == 204)) _ _ (fits_done (calls.Put path content) (λ now h. h))
    (fits_other (calls.Put path content))
outcome_fits (calls.Delete path) status = either (calls.Delete path) (status == 204) _ _
    (fits_done (calls.Delete path) (λ now h. h)) (either (calls.Delete path) (status == 404) _ _
    (fits_absent (calls.Delete path) (λ now h. h)) (fits_other (calls.Delete path)))
outcome_fits (calls.MakeDir dir) status = either (calls.MakeDir dir)
    ((status == 201) || (status == 405)) _ _ (fits_done (calls.MakeDir dir) (λ now h. h))
    (fits_other (calls.MakeDir dir))
outcome_fits (calls.GetBlob id) status = either (calls.GetBlob id) (status == 200) _ _
    (fits_blob id) (either (calls.GetBlob id) (status == 404) _ _ (fits_absent (calls.GetBlob id)
    (λ now h. h)) (fits_other (calls.GetBlob id)))
outcome_fits (calls.PutBlob id len) status = either (calls.PutBlob id len)
    ((status == 201) || (status == 204)) _ _ (fits_done (calls.PutBlob id len) (λ now h. h))
    (fits_other (calls.PutBlob id len))

asked_fits : (call : Call) (outcome : Outcome) → Fits call outcome → (now count : ℕ)
    → now ≤ MAX_TIME → (rest : List ℕ) (len : ℕ) (reply : Reply) (blob : List ℕ) (used : ℕ)
    → ResponseBodyReadsAs (cond (is_too_long outcome count) (TooLong count)
    (Body now outcome count)) rest len (Whole reply blob used) → IsReplyTo call reply
asked_fits call outcome f now count small rest len reply blob used h =
    go (is_too_long outcome count) refl h
  where
    go : (b : Bool) → is_too_long outcome count ≡ b
        → ResponseBodyReadsAs (cond b (TooLong count) (Body now outcome count)) rest len
        (Whole reply blob used) → IsReplyTo call reply
    go true is h = let same : reply ≡ replies.TooLarge count = cc h in
        subst (λ (r : Reply). IsReplyTo call r) (sym same) (f.long count is)
    go false is h = f.told now count (take count rest) reply blob small
        (omega (arith, length-take count rest)) is h.1

nothing_told : (call : Call) (rest : List ℕ) (len : ℕ) (reply : Reply) (blob : List ℕ) (used : ℕ)
    → ResponseBodyReadsAs Unreadable rest len (Whole reply blob used) → IsReplyTo call reply
nothing_told call rest len reply blob used h = absurd (cc h)

expected_fits : (call : Call) (outcome : Outcome) → Fits call outcome → (now count : Option ℕ)
    → ((n : ℕ) → now ≡ Some n → n ≤ MAX_TIME) → (rest : List ℕ) (len : ℕ) (reply : Reply)
    (blob : List ℕ) (used : ℕ) → ResponseBodyReadsAs (frame_from now outcome count) rest len
    (Whole reply blob used) → IsReplyTo call reply
expected_fits call (outcomes.Listing dir) f None None small rest len reply blob used h =
    nothing_told call rest len reply blob used h
expected_fits call (outcomes.Listing dir) f None (Some count) small rest len reply blob used h =
    nothing_told call rest len reply blob used h
expected_fits call (outcomes.Listing dir) f (Some now) None small rest len reply blob used h =
    nothing_told call rest len reply blob used h
expected_fits call (outcomes.Listing dir) f (Some now) (Some count) small rest len reply blob used
    h = asked_fits call (outcomes.Listing dir) f now count (small now refl) rest len reply blob used
    h
expected_fits call (outcomes.Content limit) f None None small rest len reply blob used h =
    nothing_told call rest len reply blob used h
expected_fits call (outcomes.Content limit) f None (Some count) small rest len reply blob used h =
    nothing_told call rest len reply blob used h
expected_fits call (outcomes.Content limit) f (Some now) None small rest len reply blob used h =
    nothing_told call rest len reply blob used h
expected_fits call (outcomes.Content limit) f (Some now) (Some count) small rest len reply blob used
    h = asked_fits call (outcomes.Content limit) f now count (small now refl) rest len reply blob
    used h
expected_fits call outcomes.Blob f None None small rest len reply blob used h =
    nothing_told call rest len reply blob used h
expected_fits call outcomes.Blob f None (Some count) small rest len reply blob used h =
    nothing_told call rest len reply blob used h
expected_fits call outcomes.Blob f (Some now) None small rest len reply blob used h =
    nothing_told call rest len reply blob used h
expected_fits call outcomes.Blob f (Some now) (Some count) small rest len reply blob used h =
    asked_fits call outcomes.Blob f now count (small now refl) rest len reply blob used h
expected_fits call outcomes.Absent f None None small rest len reply blob used h =
    nothing_told call rest len reply blob used h
expected_fits call outcomes.Absent f None (Some count) small rest len reply blob used h =
    nothing_told call rest len reply blob used h
expected_fits call outcomes.Absent f (Some now) None small rest len reply blob used h =
    nothing_told call rest len reply blob used h
expected_fits call outcomes.Absent f (Some now) (Some count) small rest len reply blob used h =
    asked_fits call outcomes.Absent f now count (small now refl) rest len reply blob used h
expected_fits call outcomes.Done f None None small rest len reply blob used h =
    nothing_told call rest len reply blob used h
expected_fits call outcomes.Done f None (Some count) small rest len reply blob used h =
    nothing_told call rest len reply blob used h
expected_fits call outcomes.Done f (Some now) None small rest len reply blob used h =
    nothing_told call rest len reply blob used h
expected_fits call outcomes.Done f (Some now) (Some count) small rest len reply blob used h =
    asked_fits call outcomes.Done f now count (small now refl) rest len reply blob used h
expected_fits call outcomes.Other f None None small rest len reply blob used h =
    nothing_told call rest len reply blob used h
expected_fits call outcomes.Other f None (Some count) small rest len reply blob used h =
    nothing_told call rest len reply blob used h
expected_fits call outcomes.Other f (Some now) None small rest len reply blob used h =
    nothing_told call rest len reply blob used h
expected_fits call outcomes.Other f (Some now) (Some count) small rest len reply blob used h =
    nothing_told call rest len reply blob used h

expect_fits : (call : Call) (status : ℕ) (fields : Fields) (rest : List ℕ) (len : ℕ) (reply : Reply)
    (blob : List ℕ) (used : ℕ) → ResponseBodyReadsAs (frame_of call status fields) rest len
    (Whole reply blob used) → IsReplyTo call reply
unfolding frame_of
expect_fits call status fields rest len reply blob used h =
    go (nat_lt 128 (length fields) || not (is_none (values_of (codes "transfer-encoding") fields)))
    h
  where
    go : (b : Bool) → ResponseBodyReadsAs
        (cond b Unreadable (frame_from (now_of (values_of (codes "date") fields))
        (outcome_of call status) (body_count status fields))) rest len (Whole reply blob used)
        → IsReplyTo call reply
    go true h = nothing_told call rest len reply blob used h
    go false h = expected_fits call (outcome_of call status) (outcome_fits call status)
        (now_of (values_of (codes "date") fields)) (body_count status fields)
        (now_bound (values_of (codes "date") fields)) rest len reply blob used h

pub reply_fits : (call : Call) (bytes : List ℕ) (reply : Reply) (blob : List ℕ) (used : ℕ)
    → ResponseReadsAs call bytes (Whole reply blob used) → IsReplyTo call reply
reply_fits call bytes reply blob used h = expect_fits call (status_code h.0) (fields_of h.0) h.1
    (length (print_response h.0)) reply blob used h.3

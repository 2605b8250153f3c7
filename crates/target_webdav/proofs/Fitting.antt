-- A reply that agrees with what is remembered fits its call.
use Rattle.std.proofs.Common.{◌≡◌, ◌≤◌, ◌<◌, refl, sym, ap, subst, arith, inl, inr, ℕ, List, length, Bool, true, false, ◌&&◌, not, Option, Some, None, if◌then◌else◌}
use Rattle.std.specs.Prelude.{◌==◌, ◌||◌, nat_le, nat_lt}
use Rattle.std.proofs.lemmas.Bool.{and_parts}
use Rattle.std.proofs.lemmas.Bool.Decides.{nat_tests}
use Rattle.std.proofs.lemmas.List.Sums.{AllPass-from_list_all}
use Rattle.jop_base.specs.Times.{last_time}
use Rattle.jop_base.specs.declared.dir.Dir.{Dir}
use Rattle.jop_base.specs.declared.path.Path.{Path}
use Rattle.jop_base.specs.declared.path.Path.TheVariants as paths
use Rattle.jop_target.specs.Replies.{IsReplyTo}
use Rattle.jop_target.specs.Store.{limit_of}
use Rattle.jop_target.specs.Trail.{moment_of}
use Rattle.jop_target.specs.declared.call.Call.{Call}
use Rattle.jop_target.specs.declared.call.Call.TheVariants as calls
use Rattle.jop_target.specs.declared.reply.Entry.{Entry}
use Rattle.jop_target.specs.declared.reply.Reply.{Reply}
use Rattle.jop_target.specs.declared.reply.Reply.TheVariants as replies
use Rattle.http_exchange.specs.declared.told.Told.{Told}
use Rattle.dav_listing.specs.Listings.{ListsFiles}
use Rattle.dav_listing.proofs.Listed.{listing_is_of_the_folder}
use Rattle.webdav_calls.specs.Outcomes.{call_outcome, content_outcome, done_if}
use Rattle.webdav_calls.specs.Replies.{IsListingReply, IsMomentReply, IsOutcomeReply, IsResponseReply, safe_moment}
use Rattle.webdav_calls.specs.declared.outcome.Outcome.TheVariants as outcomes
use Rattle.target_webdav.specs.Budgets.{kept_limit}
use Rattle.target_webdav.specs.Marks.{is_before_end, is_entry_true, is_reply_true}
use Rattle.target_webdav.specs.Serving.{reply_if_true}
use Rattle.target_webdav.specs.declared.mark.Mark.{Mark}

small : (a b : ℕ) → nat_le a b ≡ true → a ≤ b
small a b h = grind (arith, nat_tests)

failed_fits : (call : Call) → IsReplyTo call replies.Failed
failed_fits (calls.List dir) = tt
failed_fits (calls.Get path) = tt
failed_fits (calls.Put path content) = tt
failed_fits (calls.Delete path) = tt
failed_fits (calls.MakeDir dir) = tt
failed_fits (calls.GetBlob id) = tt
failed_fits (calls.PutBlob id len) = tt

failure : (call : Call) (reply : Reply) → reply ≡ replies.Failed → IsReplyTo call reply
failure call reply is = subst (λ (r : Reply). IsReplyTo call r) (sym is) (failed_fits call)

in_time : (mark : Mark) (call : Call) (reply : Reply) (now : ℕ) → moment_of reply ≡ Some now
    → is_reply_true mark call reply ≡ true → now ≤ last_time
in_time mark call reply now is holds =
    small now last_time
    (subst (λ (m : Option ℕ). is_before_end m ≡ true) is (and_parts _ _ holds).0)

-- no file has a smaller limit than what is kept of it
wide : (path : Path) → 16_777_216 ≤ limit_of path
wide paths.Info = omega arith
wide paths.OldVersion = omega arith
wide (paths.Item id) = omega arith
wide (paths.Blob id) = omega arith
wide (paths.Lock name) = omega arith
wide (paths.Temp id) = omega arith
wide (paths.Tomb id) = omega arith

-- ---- listings

listing_fits : (mark : Mark) (dir : Dir) (folder body : List ℕ) (now : ℕ) (entries : List Entry)
    → ListsFiles dir folder body entries
    → is_reply_true mark (calls.List dir) (replies.Listed (record { now = now; entries = entries })) ≡ true
    → IsReplyTo (calls.List dir) (replies.Listed (record { now = now; entries = entries }))
listing_fits mark dir folder body now entries lists holds =
    let parts = and_parts (nat_le now last_time) _ holds in
    let shown = and_parts _ _ parts.1 in
    let all = AllPass-from_list_all (λ (e : Entry). is_entry_true mark.own now e) entries shown.0 in
    let own = listing_is_of_the_folder dir folder body entries lists in
    record {
      now = small now last_time parts.0;
      paths = λ k d lt. (own k d lt).0;
      inside = λ k d lt. (own k d lt).1;
      stamps = λ k d lt. small _ last_time (and_parts _ _ (all k d lt)).0;
      rising = lists.rising;
    }

listing_reply_fits : (mark : Mark) (dir : Dir) (folder body : List ℕ) (now : ℕ) (reply : Reply)
    → IsListingReply dir folder body now reply → is_reply_true mark (calls.List dir) reply ≡ true
    → IsReplyTo (calls.List dir) reply
listing_reply_fits mark dir folder body now reply (inl h) holds =
    subst (λ (r : Reply). is_reply_true mark (calls.List dir) r ≡ true → IsReplyTo (calls.List dir) r)
    (sym h.2) (listing_fits mark dir folder body now h.0 h.1) holds
listing_reply_fits mark dir folder body now reply (inr h) holds = failure (calls.List dir) reply h.1

listed_fits : (mark : Mark) (dir : Dir) (folder body : List ℕ) (now : ℕ) (reply : Reply) (listed : Bool)
    → IsOutcomeReply (if listed then outcomes.Listing dir else outcomes.Failed) folder body now reply
    → is_reply_true mark (calls.List dir) reply ≡ true → IsReplyTo (calls.List dir) reply
listed_fits mark dir folder body now reply true h holds =
    listing_reply_fits mark dir folder body now reply h holds
listed_fits mark dir folder body now reply false h holds = failure (calls.List dir) reply h

-- ---- files

past : (limit length : ℕ) → nat_lt limit length ≡ true → limit < length
past limit length h = grind (arith, nat_tests)

content_fits : (mark : Mark) (path : Path) (folder body : List ℕ) (now : ℕ) (reply : Reply)
    → IsOutcomeReply outcomes.Content folder body now reply
    → length body ≤ 16_777_216 → is_reply_true mark (calls.Get path) reply ≡ true
    → IsReplyTo (calls.Get path) reply
content_fits mark path folder body now reply h short holds =
    let early = in_time mark (calls.Get path) reply now (ap moment_of h) holds in
    let room = wide path in
    subst (λ (r : Reply). IsReplyTo (calls.Get path) r) (sym h) (early, omega (arith, short, room))

text_fits : (mark : Mark) (path : Path) (folder body : List ℕ) (now : ℕ) (reply : Reply)
    (told : Option ℕ)
    → IsOutcomeReply (content_outcome told (limit_of path) outcomes.Content) folder body now reply
    → length body ≤ 16_777_216
    → is_reply_true mark (calls.Get path) reply ≡ true → IsReplyTo (calls.Get path) reply
text_fits mark path folder body now reply None h short holds =
    content_fits mark path folder body now reply h short holds
text_fits mark path folder body now reply (Some n) h short holds = by (nat_lt (limit_of path) n) refl h
  where
    by : (b : Bool) → nat_lt (limit_of path) n ≡ b
        → IsOutcomeReply (if b then outcomes.TooLong n else outcomes.Content) folder body now reply
        → IsReplyTo (calls.Get path) reply
    by true is sent =
        subst (λ (r : Reply). IsReplyTo (calls.Get path) r) (sym sent) (past (limit_of path) n is)
    by false is sent = content_fits mark path folder body now reply sent short holds

got_fits : (mark : Mark) (path : Path) (folder body : List ℕ) (now : ℕ) (reply : Reply)
    (told : Option ℕ) (got absent : Bool)
    → IsOutcomeReply (if got then content_outcome told (limit_of path) outcomes.Content
    else if absent then outcomes.Absent else outcomes.Failed) folder body now reply
    → length body ≤ 16_777_216 → is_reply_true mark (calls.Get path) reply ≡ true
    → IsReplyTo (calls.Get path) reply
got_fits mark path folder body now reply told true absent h short holds =
    text_fits mark path folder body now reply told h short holds
got_fits mark path folder body now reply told false true h short holds =
    subst (λ (r : Reply). IsReplyTo (calls.Get path) r) (sym h)
    (in_time mark (calls.Get path) reply now (ap moment_of h) holds)
got_fits mark path folder body now reply told false false h short holds =
    failure (calls.Get path) reply h

bytes_fit : (mark : Mark) (id : List ℕ) (folder body : List ℕ) (now : ℕ) (reply : Reply)
    → IsOutcomeReply outcomes.Blob folder body now reply
    → length body ≤ 67_108_864 → is_reply_true mark (calls.GetBlob id) reply ≡ true
    → IsReplyTo (calls.GetBlob id) reply
bytes_fit mark id folder body now reply h short holds =
    let early = in_time mark (calls.GetBlob id) reply now (ap moment_of h) holds in
    subst (λ (r : Reply). IsReplyTo (calls.GetBlob id) r) (sym h) (early, short)

blob_text_fits : (mark : Mark) (id : List ℕ) (folder body : List ℕ) (now : ℕ) (reply : Reply)
    (told : Option ℕ)
    → IsOutcomeReply (content_outcome told (limit_of (paths.Blob id)) outcomes.Blob) folder body now reply
    → length body ≤ 67_108_864 → is_reply_true mark (calls.GetBlob id) reply ≡ true
    → IsReplyTo (calls.GetBlob id) reply
blob_text_fits mark id folder body now reply None h short holds =
    bytes_fit mark id folder body now reply h short holds
blob_text_fits mark id folder body now reply (Some n) h short holds =
    by (nat_lt (limit_of (paths.Blob id)) n) refl h
  where
    by : (b : Bool) → nat_lt (limit_of (paths.Blob id)) n ≡ b
        → IsOutcomeReply (if b then outcomes.TooLong n else outcomes.Blob) folder body now reply
        → IsReplyTo (calls.GetBlob id) reply
    by true is sent =
        subst (λ (r : Reply). IsReplyTo (calls.GetBlob id) r) (sym sent)
        (past (limit_of (paths.Blob id)) n is)
    by false is sent = bytes_fit mark id folder body now reply sent short holds

blob_fits : (mark : Mark) (id : List ℕ) (folder body : List ℕ) (now : ℕ) (reply : Reply)
    (told : Option ℕ) (got absent : Bool)
    → IsOutcomeReply (if got then content_outcome told (limit_of (paths.Blob id)) outcomes.Blob
    else if absent then outcomes.Absent else outcomes.Failed) folder body now reply
    → length body ≤ 67_108_864 → is_reply_true mark (calls.GetBlob id) reply ≡ true
    → IsReplyTo (calls.GetBlob id) reply
blob_fits mark id folder body now reply told true absent h short holds =
    blob_text_fits mark id folder body now reply told h short holds
blob_fits mark id folder body now reply told false true h short holds =
    subst (λ (r : Reply). IsReplyTo (calls.GetBlob id) r) (sym h)
    (in_time mark (calls.GetBlob id) reply now (ap moment_of h) holds)
blob_fits mark id folder body now reply told false false h short holds =
    failure (calls.GetBlob id) reply h

-- ---- changes

-- such calls may be answered that they are done
record TakesDone (call : Call) : Type 0 where
  fits : (now : ℕ) → now ≤ last_time → IsReplyTo call (replies.Done now)

done_fits : (mark : Mark) (call : Call) (folder body : List ℕ) (now : ℕ) (reply : Reply) (done : Bool)
    → TakesDone call → IsOutcomeReply (done_if done) folder body now reply
    → is_reply_true mark call reply ≡ true → IsReplyTo call reply
done_fits mark call folder body now reply true takes h holds =
    subst (λ (r : Reply). IsReplyTo call r) (sym h)
    (takes.fits now (in_time mark call reply now (ap moment_of h) holds))
done_fits mark call folder body now reply false takes h holds = failure call reply h

deleted_fits : (mark : Mark) (path : Path) (folder body : List ℕ) (now : ℕ) (reply : Reply)
    (absent done : Bool)
    → IsOutcomeReply (if absent then outcomes.Absent else done_if done) folder body now reply
    → is_reply_true mark (calls.Delete path) reply ≡ true → IsReplyTo (calls.Delete path) reply
deleted_fits mark path folder body now reply true done h holds =
    subst (λ (r : Reply). IsReplyTo (calls.Delete path) r) (sym h)
    (in_time mark (calls.Delete path) reply now (ap moment_of h) holds)
deleted_fits mark path folder body now reply false done h holds =
    done_fits mark (calls.Delete path) folder body now reply done
    (record { fits = λ n early. early }) h holds

-- ---- all

by_call : (mark : Mark) (call : Call) (told : Told) (folder body : List ℕ) (now : ℕ) (reply : Reply)
    → IsOutcomeReply (call_outcome call told) folder body now reply
    → length body ≤ kept_limit call → is_reply_true mark call reply ≡ true → IsReplyTo call reply
by_call mark (calls.List dir) told folder body now reply h short holds =
    listed_fits mark dir folder body now reply (told.status == 207) h holds
by_call mark (calls.Get path) told folder body now reply h short holds =
    got_fits mark path folder body now reply told.length ((told.status == 200) && not told.endless)
    (told.status == 404) h short holds
by_call mark (calls.Put path content) told folder body now reply h short holds =
    done_fits mark (calls.Put path content) folder body now reply
    (((told.status == 200) || (told.status == 201)) || (told.status == 204))
    (record { fits = λ n early. early }) h holds
by_call mark (calls.Delete path) told folder body now reply h short holds =
    deleted_fits mark path folder body now reply (told.status == 404)
    ((told.status == 200) || (told.status == 204)) h holds
by_call mark (calls.MakeDir dir) told folder body now reply h short holds =
    done_fits mark (calls.MakeDir dir) folder body now reply
    ((told.status == 201) || (told.status == 405)) (record { fits = λ n early. early }) h holds
by_call mark (calls.GetBlob id) told folder body now reply h short holds =
    blob_fits mark id folder body now reply told.length ((told.status == 200) && not told.endless)
    (told.status == 404) h short holds
by_call mark (calls.PutBlob id len) told folder body now reply h short holds =
    done_fits mark (calls.PutBlob id len) folder body now reply
    (((told.status == 200) || (told.status == 201)) || (told.status == 204))
    (record { fits = λ n early. early }) h holds

at_moment : (mark : Mark) (call : Call) (told : Told) (folder body : List ℕ) (reply : Reply)
    (moment : Option ℕ) → IsMomentReply moment (call_outcome call told) folder body reply
    → length body ≤ kept_limit call → is_reply_true mark call reply ≡ true → IsReplyTo call reply
at_moment mark call told folder body reply None h short holds = failure call reply h
at_moment mark call told folder body reply (Some moment) h short holds =
    by_call mark call told folder body (safe_moment moment) reply h short holds

pub true_fits : (mark : Mark) (call : Call) (told : Told) (folder body : List ℕ) (heard : Reply)
    → IsResponseReply call told folder body heard → length body ≤ kept_limit call
    → IsReplyTo call (reply_if_true mark call heard)
true_fits mark call told folder body heard means short = by (is_reply_true mark call heard) refl
  where
    by : (b : Bool) → is_reply_true mark call heard ≡ b
        → IsReplyTo call (if b then heard else replies.Failed)
    by true holds = at_moment mark call told folder body heard told.moment means short holds
    by false holds = failed_fits call

-- Which responses are read back, and as what.
use Rattle.std.specs.Prelude.{ℕ, ◌*◌, ◌/◌, ◌≡◌, List, [], length, All}
use Rattle.jop_base.specs.Paths.{IsPath}
use Rattle.jop_target.specs.declared.reply.Entry.{Entry}
use Rattle.jop_target.specs.declared.reply.Reply.{Reply}
use Rattle.jop_target.specs.declared.reply.Reply.TheVariants as replies

-- a moment of whole seconds
abbrev pub IsWholeSecond : ℕ → Type 0
IsWholeSecond moment = moment ≡ moment / 1_000 * 1_000

-- what a response can carry of a reply: neither a failure nor a length past the limit, and whole
-- seconds alone
abbrev pub IsTellable : Reply → List ℕ → Type 0
IsTellable (replies.Listed listing) blob =
    IsWholeSecond listing.now × All (λ (e : Entry). IsWholeSecond e.stamp) listing.entries
    × All (λ (e : Entry). IsPath e.path) listing.entries
IsTellable (replies.Got now content) blob = IsWholeSecond now
IsTellable (replies.GotBlob now len) blob = IsWholeSecond now × (len ≡ length blob)
IsTellable (replies.Absent now) blob = IsWholeSecond now
IsTellable (replies.Done now) blob = IsWholeSecond now
IsTellable replies.Failed blob = ⊥
IsTellable (replies.TooLarge len) blob = ⊥

-- the bytes of the blob that was got
abbrev pub got_bytes : Reply → List ℕ → List ℕ
got_bytes (replies.GotBlob now len) blob = blob
got_bytes reply blob = []

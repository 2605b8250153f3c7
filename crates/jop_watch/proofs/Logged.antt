-- The line of a call whose reply lists nothing.
use Rattle.std.specs.Prelude.{◌≡◌, ◌++◌, codes, refl}
use Rattle.jop_target.specs.Texts.{call_text, reply_text}
use Rattle.jop_target.specs.declared.call.Call.{Call}
use Rattle.jop_target.specs.declared.reply.Listing.{Listing}
use Rattle.jop_target.specs.declared.reply.Reply.{Reply}
use Rattle.jop_target.specs.declared.reply.Reply.TheVariants.{Absent, Done, Failed, Got, GotBlob, Listed, TooLarge}
use Rattle.jop_watch.specs.Watching.{log_line}

pub plain_line : (call : Call) (reply : Reply) → ((l : Listing) → ¬ (reply ≡ Listed l))
    → log_line call reply ≡ call_text call ++ (codes ": " ++ (reply_text reply ++ codes "\n"))
plain_line call (Listed l) isnt = absurd (isnt l refl)
plain_line call (Got now content) isnt = refl
plain_line call (GotBlob now len) isnt = refl
plain_line call (Absent now) isnt = refl
plain_line call (Done now) isnt = refl
plain_line call Failed isnt = refl
plain_line call (TooLarge len) isnt = refl

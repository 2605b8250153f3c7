-- The licences of the info: the client's own and the one that its session has read become one.
use Rattle.std.specs.Prelude.{ℕ, ◌≡◌, List, [], ◌∷◌, Option, Some, None}
use Rattle.jop_base.specs.declared.path.Path.TheVariants.{Info as InfoFile}
use Rattle.jop_target.specs.declared.call.Call.{Call}
use Rattle.jop_target.specs.declared.call.Call.TheVariants.{Get}
use Rattle.jop_target.specs.declared.reply.Reply.{Reply}
use Rattle.jop_target.specs.declared.reply.Reply.TheVariants.{Got}
use Rattle.sync_info.specs.Json.{info_text}
use Rattle.sync_info.specs.Merge.{merged}
use Rattle.sync_info.specs.Read.{info_in}
use Rattle.sync_info.specs.declared.info.Info.{Info}
use Rattle.law_licences.specs.Views.{Heard, View}

-- the first, or else the second
abbrev pub or_before : Option Info → Option Info → Option Info
or_before None before = before
or_before (Some info) before = Some info

-- what a call was told of the info, or else what was told before
abbrev pub info_by : Call → Option Reply → Option Info → Option Info
info_by (Get InfoFile) (Some (Got now content)) before = or_before (info_in content) before
info_by call reply before = before

-- the info that was told last by these calls
unfoldable pub info_read : List Heard → Option Info
info_read [] = None
info_read (h ∷ hs) = info_by h.call h.reply (info_read hs)

-- the merge is put if it differs from what was read
pub record MayPutInfo (v : View) (content : List ℕ) : Type 0 where
  pub remote : Info
  pub read : info_read v.calls ≡ Some remote
  pub text : content ≡ info_text (merged v.tables.info remote)
  pub differs : ¬ (merged v.tables.info remote ≡ remote)

-- the client's own info becomes the merge if it differs from it
pub record MaySetInfo (v : View) (info : Info) : Type 0 where
  pub remote : Info
  pub read : info_read v.calls ≡ Some remote
  pub is : info ≡ merged v.tables.info remote
  pub differs : ¬ (info ≡ v.tables.info)

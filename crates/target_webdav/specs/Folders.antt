-- The path on the server of the folder that a listing is of.
use Rattle.std.specs.Prelude.{ℕ, List, [], ◌++◌}
use Rattle.percent_encoding.specs.Percent.{percent_decode}
use Rattle.jop_base.specs.Paths.{dir_prefix}
use Rattle.jop_target.specs.declared.call.Call.{Call}
use Rattle.jop_target.specs.declared.call.Call.TheVariants as calls
use Rattle.webdav_calls.specs.Sites.{SiteView}

-- its escapes read once; nothing of a call that lists none
abbrev pub listed_folder : SiteView → Call → List ℕ
listed_folder site (calls.List dir) = percent_decode (site.path ++ dir_prefix dir)
listed_folder site call = []

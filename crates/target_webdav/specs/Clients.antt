-- A target that a server holds, as the client that it is of that server.
use Rattle.std.specs.Prelude.{ℕ, Bool}
use Rattle.dav_link.specs.Links.{LinkNow}
use Rattle.target_webdav.specs.declared.mark.Mark.{Mark}
use Rattle.webdav_calls.specs.Sites.{SiteView}

-- its link, where the server holds the target, whether the next call goes on with the link as it is, what it remembers,
-- and how often it has failed
pub record SiteClient (L : Type 0) : Type 0 where
  pub link : L
  pub site : SiteView
  pub ready : Bool
  pub mark : Mark
  pub faults : ℕ

-- the same by what its link tells of itself
pub record SiteClientNow : Type 0 where
  pub link : LinkNow
  pub ready : Bool
  pub mark : Mark

abbrev pub site_client_now : {L : Type 0} → (L → LinkNow) → SiteClient L → SiteClientNow
site_client_now link_now client =
    record { link = link_now client.link; ready = client.ready; mark = client.mark }

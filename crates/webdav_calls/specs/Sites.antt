-- Where a WebDAV server holds a target, and as whom it is asked.
use Rattle.std.specs.Prelude.{ℕ, List, ◌∷◌, ◌++◌, codes, Option}
use Rattle.base64.specs.Engines.{standard}
use Rattle.base64.specs.GeneralPurpose.{encode_of}

-- what a site is made of: its host with the port, the path of its folder, which has a slash at both ends, and what it
-- gives for a user and a password, if there is a user
pub record SiteView : Type 0 where
  pub host : List ℕ
  pub path : List ℕ
  pub user : Option (List ℕ)

-- a site by its parts
abbrev pub site_with : List ℕ → List ℕ → Option (List ℕ) → SiteView
site_with host path user = record { host = host; path = path; user = user }

-- what is given for a user and a password (RFC 7617, 2)
abbrev pub basic_credentials : List ℕ → List ℕ → List ℕ
basic_credentials user password =
    codes "Basic " ++ encode_of standard (user ++ (58 ∷ password))

-- The licences of the page: what the session's last listing of the root asks of the client.
use Rattle.std.specs.Prelude.{ℕ, ◌≡◌, List, false, Contains, Option, Some}
use Rattle.delta.specs.Page.{IsPageOf, fail_safe}
use Rattle.delta.specs.declared.page.Page.{Page}
use Rattle.jop_base.specs.declared.context.Context.{Context}
use Rattle.jop_target.specs.declared.reply.Reply.{Reply}
use Rattle.local_store.specs.Tables.{base_of, row_at}
use Rattle.local_store.specs.declared.content.Content.{Content}
use Rattle.law_licences.specs.Checks.{IsOther, WasGot, is_pending}
use Rattle.law_licences.specs.Views.{Shown, View}

-- this is the page of what a session was shown
abbrev pub IsPage : Shown → Page → Type 0
IsPage shown page = IsPageOf shown.listing shown.tombs shown.context shown.synced page

-- how many items the client has a base of, where it was shown what looks like an emptied target
abbrev pub emptied_by : Shown → Option ℕ
emptied_by shown = fail_safe shown.listing shown.tombs shown.synced

-- this is the page of what the session was shown last
pub record HasPage (v : View) (page : Page) : Type 0 where
  pub shown : Shown
  pub last : v.shown ≡ Some shown
  pub is : IsPage shown page

-- a new file of the page was got and is another one than the client left, and its row, if any, has no change
pub record MayTake (v : View) (id bytes : List ℕ) (content : Content) : Type 0 where
  pub page : Page
  pub reply : Reply
  pub has : HasPage v page
  pub taken : Contains page.taken id
  pub unchanged : is_pending (row_at v.tables id) ≡ false
  pub check : WasGot v id reply
  pub other : IsOther v.sealing id (base_of (row_at v.tables id)) reply (Some (bytes, content))

-- the row's file is gone by the page, and the row has no change
pub record MayGo (v : View) (id : List ℕ) : Type 0 where
  pub page : Page
  pub has : HasPage v page
  pub gone : Contains page.gone id
  pub unchanged : is_pending (row_at v.tables id) ≡ false

-- the page is read
pub record MayFinish (v : View) (context : Context) : Type 0 where
  pub page : Page
  pub has : HasPage v page
  pub next : context ≡ page.next

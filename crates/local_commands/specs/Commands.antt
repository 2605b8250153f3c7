-- The commands: the plan of each, by a row.
pub mod Add
pub mod Amend
pub mod Attach
pub mod Cat
pub mod Clear
pub mod Conflicts
pub mod Edit
pub mod Lists
pub mod Mkbook
pub mod Rm
pub mod Show
pub mod Tag
pub mod Untag
use Rattle.std.specs.Prelude.{◌≡◌, IfSome}
use Rattle.item_kinds.specs.Made.{IsLine}
use Rattle.item_text.specs.Lines.{trimmed}
use Rattle.local_commands.specs.Commands.Add.{add_plan}
use Rattle.local_commands.specs.Commands.Amend.{amend_plan}
use Rattle.local_commands.specs.Commands.Attach.{attach_plan}
use Rattle.local_commands.specs.Commands.Cat.{cat_plan}
use Rattle.local_commands.specs.Commands.Clear.{clear_plan}
use Rattle.local_commands.specs.Commands.Conflicts.{conflicts_plan}
use Rattle.local_commands.specs.Commands.Edit.{edit_plan}
use Rattle.local_commands.specs.Commands.Lists.{list_plan, listed_by}
use Rattle.local_commands.specs.Commands.Mkbook.{mkbook_plan}
use Rattle.local_commands.specs.Commands.Rm.{rm_plan}
use Rattle.local_commands.specs.Commands.Show.{show_plan}
use Rattle.local_commands.specs.Commands.Tag.{tag_plan}
use Rattle.local_commands.specs.Commands.Untag.{untag_plan}
use Rattle.local_commands.specs.Naming.{of_id, of_id_if, of_two_ids}
use Rattle.local_commands.specs.Running.{Plan}
use Rattle.local_changes.specs.declared.amend.Amendment.TheVariants as amendments
use Rattle.local_commands.specs.declared.command.listing.Listing.TheVariants as lists
use Rattle.local_commands.specs.declared.command.LocalCommand.{LocalCommand}
use Rattle.local_commands.specs.declared.command.LocalCommand.TheVariants as commands

-- titles, names and types of content stand on a line
abbrev pub IsWellFormed : LocalCommand → Type 0
IsWellFormed (commands.Add book title) = IsLine title
IsWellFormed (commands.Attach name mime) = IsLine name × IsLine mime × (trimmed mime ≡ mime)
IsWellFormed (commands.Cat id) = Unit {0}
IsWellFormed (commands.Clear number) = Unit {0}
IsWellFormed commands.Conflicts = Unit {0}
IsWellFormed (commands.Edit id title) = IfSome title (λ title. IsLine title)
IsWellFormed (commands.Find part) = Unit {0}
IsWellFormed (commands.Ls book) = Unit {0}
IsWellFormed (commands.Mkbook title parent) = IsLine title
IsWellFormed (commands.Move id book) = Unit {0}
IsWellFormed (commands.Rename id title) = IsLine title
IsWellFormed commands.Resources = Unit {0}
IsWellFormed (commands.Rm id) = Unit {0}
IsWellFormed (commands.Show number) = Unit {0}
IsWellFormed (commands.Tag note title) = IsLine title
IsWellFormed (commands.Tagged tag) = Unit {0}
IsWellFormed commands.Tags = Unit {0}
IsWellFormed commands.Trash = Unit {0}
IsWellFormed (commands.Untag note tag) = Unit {0}

-- what each command is
abbrev pub plan_of : LocalCommand → Plan
plan_of (commands.Add book title) = of_id book (λ book. add_plan book title)
plan_of (commands.Attach name mime) = attach_plan name mime
plan_of (commands.Cat id) = of_id id (λ id. cat_plan id)
plan_of (commands.Clear number) = clear_plan number
plan_of commands.Conflicts = conflicts_plan
plan_of (commands.Edit id title) = of_id id (λ id. edit_plan id title)
plan_of (commands.Find part) = list_plan (lists.Found part)
plan_of (commands.Ls book) = of_id_if book (λ book. list_plan (listed_by book))
plan_of (commands.Mkbook title parent) = of_id_if parent (λ parent. mkbook_plan title parent)
plan_of (commands.Move id book) =
    of_two_ids id book (λ id book. amend_plan id (amendments.Book book))
plan_of (commands.Rename id title) = of_id id (λ id. amend_plan id (amendments.Title title))
plan_of commands.Resources = list_plan lists.Resources
plan_of (commands.Rm id) = of_id id (λ id. rm_plan id)
plan_of (commands.Show number) = show_plan number
plan_of (commands.Tag note title) = of_id note (λ note. tag_plan note title)
plan_of (commands.Tagged tag) = of_id tag (λ tag. list_plan (lists.NotesWith tag))
plan_of commands.Tags = list_plan lists.Tags
plan_of commands.Trash = list_plan lists.Trash
plan_of (commands.Untag note tag) = of_two_ids note tag (λ note tag. untag_plan note tag)

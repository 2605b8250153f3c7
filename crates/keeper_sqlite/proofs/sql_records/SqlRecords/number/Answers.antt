use Rattle.std.specs.Prelude.{ℕ, List, Some, codes}
use Rattle.std.proofs.Common.{sym, ◌∙◌, subst}
use Rattle.keeper_sqlite.specs.Answers.{KeyShown, database_now}
use Rattle.keeper_sqlite.proofs.sql_records.SqlRecords.number.Goals as goal

-- the digits that are shown are those of the number
pub returns-clause-shown : goal.returns-clause-shown
returns-clause-shown g c =
    subst (λ (digits : List ℕ). KeyShown
    (database_now g.O.Database.Opened.state (g.O.Opener.opens c.args.self.now.opener)
    c.args.self.now.database).shows (codes "next_conflict") (Some digits))
    (sym c.as_slice.ensures ∙ c.in_ok-number.ensures.ok) c.in_ok-digits.ensures.ok.0

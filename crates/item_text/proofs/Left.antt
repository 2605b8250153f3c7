-- How much of a text is left, line by line.
use Rattle.std.proofs.Common.{ℕ, List, Option, Some, None, Bor, length, ◌+◌}

abbrev pub left : Option (Bor (List ℕ)) → ℕ
left None = 0
left (Some text) = length text.now + 1

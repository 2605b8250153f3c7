-- Two parts that are written in a row.
use Rattle.std.proofs.Common.{sym, subst, ℕ, List, [], ◌++◌, append-nil, Result, Ok, Err}
use Rattle.jop_outside.specs.Outside.{SinkNow}
use Rattle.jop_outside.specs.Writing.{WasCut, WasWritten, WritesAll}
use Rattle.jop_outside.specs.declared.failed.Failed.{Failed}
use Rattle.jop_outside.proofs.WritingLaws.{IsAt, at_cut, at_end, at_next, at_start}

pub cut_before : (a b : SinkNow) (first second : List ℕ) → WasCut a first b →
    WasCut a (first ++ second) b
cut_before a b first second cut =
    at_cut a a b (first ++ second) first second (at_start a (first ++ second)) cut

at_behind : (a b : SinkNow) (first second : List ℕ) → WasWritten a first b →
    IsAt a (first ++ second) b (second ++ [])
at_behind a b first second written =
    subst (λ (rest : List ℕ). IsAt a (first ++ second) b rest) (sym (append-nil second))
    (at_next a a b (first ++ second) first second (at_start a (first ++ second)) written)

pub writes_behind : (a b c : SinkNow) (first second : List ℕ) (result : Result (Unit {0}) Failed) →
    WasWritten a first b → WritesAll b second result c → WritesAll a (first ++ second) result c
writes_behind a b c first second (Ok done) h writes =
    at_end a c (first ++ second)
    (at_next a b c (first ++ second) second [] (at_behind a b first second h) writes)
writes_behind a b c first second (Err e) h writes =
    at_cut a b c (first ++ second) second [] (at_behind a b first second h) writes

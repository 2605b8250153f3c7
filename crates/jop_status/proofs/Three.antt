-- Three parts that are written in a row.
use Rattle.std.proofs.Common.{sym, subst, ℕ, List, [], ◌++◌, append-nil, Result, Ok, Err}
use Rattle.jop_outside.specs.Outside.{SinkNow}
use Rattle.jop_outside.specs.Writing.{WasCut, WasWritten, WritesAll}
use Rattle.jop_outside.specs.declared.failed.Failed.{Failed}
use Rattle.jop_outside.proofs.WritingLaws.{IsAt, at_cut, at_end, at_next, at_start}

pub cut_first : (a b : SinkNow) (first second third : List ℕ) → WasCut a first b →
    WasCut a (first ++ (second ++ third)) b
cut_first a b first second third cut =
    at_cut a a b (first ++ (second ++ third)) first (second ++ third)
    (at_start a (first ++ (second ++ third))) cut

at_second : (a b : SinkNow) (first second third : List ℕ) → WasWritten a first b →
    IsAt a (first ++ (second ++ third)) b (second ++ third)
at_second a b first second third written =
    at_next a a b (first ++ (second ++ third)) first (second ++ third)
    (at_start a (first ++ (second ++ third))) written

pub cut_second : (a b c : SinkNow) (first second third : List ℕ) → WasWritten a first b →
    WasCut b second c → WasCut a (first ++ (second ++ third)) c
cut_second a b c first second third written cut =
    at_cut a b c (first ++ (second ++ third)) second third (at_second a b first second third written) cut

at_third : (a b c : SinkNow) (first second third : List ℕ) → WasWritten a first b →
    WasWritten b second c → IsAt a (first ++ (second ++ third)) c (third ++ [])
at_third a b c first second third h k =
    subst (λ (rest : List ℕ). IsAt a (first ++ (second ++ third)) c rest) (sym (append-nil third))
    (at_next a b c (first ++ (second ++ third)) second third (at_second a b first second third h) k)

pub writes_third : (a b c d : SinkNow) (first second third : List ℕ) (result : Result (Unit {0}) Failed) →
    WasWritten a first b → WasWritten b second c → WritesAll c third result d →
    WritesAll a (first ++ (second ++ third)) result d
writes_third a b c d first second third (Ok done) h k writes =
    at_end a d (first ++ (second ++ third))
    (at_next a c d (first ++ (second ++ third)) third [] (at_third a b c first second third h k) writes)
writes_third a b c d first second third (Err e) h k writes =
    at_cut a c d (first ++ (second ++ third)) third [] (at_third a b c first second third h k) writes

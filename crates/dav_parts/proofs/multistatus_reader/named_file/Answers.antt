use Rattle.std.proofs.Common.{◌*◌, sym, ap, refl, ◌∙◌, ◌++◌, List, ℕ}
use Rattle.jop_base.specs.Paths.{file_name}
use Rattle.dav_parts.specs.Multistatus.{date_open}
use Rattle.dav_parts.proofs.LineLemmas.{same_line}
use Rattle.dav_parts.proofs.multistatus_reader.named_file.Goals as goal

pub returns-in-None-clause-none : goal.returns-in-None-clause-none
returns-in-None-clause-none c = λ entry rest h.
    let name = c.args.name.now in
    let text = c.args.text.now in
    let line = same_line name text (name ++ (date_open ++ text)) c.args.dir entry rest refl
    c.requires h in
    c.in-None.ensures.none h.date rest line.1

pub returns-in-None-read-clause-none : goal.returns-in-None-read-clause-none
returns-in-None-read-clause-none c = λ entry rest h.
    let name = c.args.name.now in
    let text = c.args.text.now in
    let line = same_line name text (name ++ (date_open ++ text)) c.args.dir entry rest refl
    c.requires h in
    c.in-None-read.ensures.none entry.path h.path (record { lies = h.inside; bears = sym line.0 })

pub returns-in-Some-read-clause-some : goal.returns-in-Some-read-clause-some
returns-in-Some-read-clause-some c =
    let named = c.in-Some-read.ensures.some.0 in
    record {
      date = c.in-Some.date;
      stamp = ap (λ (s : ℕ). s * 1_000) c.unix_secs-stamp.ensures.value;
      line = ap (λ (n : List ℕ). n ++ (date_open ++ c.args.text.now)) (sym named.bears)
          ∙ ap (λ (t : List ℕ). file_name c.in-Some-read.path ++ (date_open ++ t))
          c.in-Some.ensures.some;
      inside = named.lies;
      path = c.in-Some-read.ensures.some.1;
    }

-- The history of a target that is written out.
use Rattle.std.proofs.Common.{◌≤◌, refl, inl, lit≤}
use Rattle.std.proofs.lemmas.List.Elements.{All-nil}
use Rattle.std.proofs.lemmas.List.Sums.{AllPass-from_list_all}
use Rattle.std.specs.Str.{chars, is_utf8}
use lib.Utf8.{encode}
use Rattle.item_text.specs.Grammar.{written, item_in, first_fault, lines_fault, block_fault, colon_fault, type_fault, block, above_block, item_of_lines, pair_of}
use Rattle.item_text.specs.Lines.{joined, lines, has_text, trimmed}
use Rattle.item_text.specs.Props.{value_of}
use Rattle.item_text.specs.Valid.{is_type_value}
use Rattle.jop_base.specs.Id.{IsIdText, is_digit}
use Rattle.jop_base.specs.Keyed.{at, put, cut}
use Rattle.jop_base.specs.Paths.{IsPath}
use Rattle.jop_target.specs.History.{IsHonest}
use Rattle.jop_target.specs.declared.tree.File.{File}
use Rattle.jop_target.specs.Store.{reply_of, tree_after}
use Rattle.local_store.specs.Tale.{plain}
use Rattle.law_kept.specs.Fates.{Has, CopyStands}
use Rattle.law_licences.specs.Items.{item_of_file}
use Rattle.law_kept.specs.Refusals.{refused_from}
use Rattle.law_kept.specs.Standing.{world_from, world_end}
use Rattle.law_kept.specs.Stories.{second_client}
use Rattle.law_kept.specs.Telling.{steps_told, history_of, IsFairFor}
use Rattle.law_licences.specs.Stories.{it}
use Rattle.law_kept.specs.ToldStories.{second_text, a_told_conflict}
use Rattle.law_kept.proofs.Crossings.{puts_uncrossed, gapless}
use Rattle.law_kept.proofs.Obeying.{all_obey}

same_moment : 0 ≤ 0
same_moment = lit≤ tt

told_honest : IsHonest (plain a_told_conflict)
unfolding reply_of tree_after at put written joined
told_honest =
    let z : 0 ≤ 0 = same_moment in
    record {
      opening = record { paths = All-nil (λ (f : File). IsPath f.path); ordered = tt };
      steps = (
        z,
        tt,
        (
          z,
          tt,
          (
            z,
            (refl, (0, z, refl)),
            (
              z,
              (refl, (0, z, refl)),
              (
                z,
                tt,
                (
                  z,
                  tt,
                  (z, tt, (z, (refl, (0, z, refl)), (z, tt, (z, tt, tt)))),
                ),
              ),
            ),
          ),
        ),
      );
    }

it_is_id_text : IsIdText it
it_is_id_text = record { long = refl; digits = AllPass-from_list_all is_digit it refl }

pub told_fair : IsFairFor it a_told_conflict
unfolding refused_from puts_uncrossed steps_told at put cut item_in is_utf8 chars encode first_fault
    lines_fault block_fault colon_fault type_fault block above_block item_of_lines pair_of written
    joined
    lines has_text trimmed value_of is_type_value
told_fair = record {
  honest = told_honest;
  text = it_is_id_text;
  obey = all_obey (item_of_file it) (history_of it a_told_conflict) refl;
  gapless =
      gapless (history_of it a_told_conflict).opening (history_of it a_told_conflict).steps refl;
}

pub told_copied : CopyStands (world_end (history_of it a_told_conflict)) second_client second_text
unfolding world_from steps_told at put cut Has
told_copied = record {
  copy = record { number = 1; item = second_text };
  there = inl refl;
  stands = refl;
}

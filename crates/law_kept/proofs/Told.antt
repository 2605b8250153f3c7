-- The histories that are written out.
use Rattle.std.proofs.Common.{◌≡◌, refl, inl, ℕ, List, [], ◌∷◌, true, Option}
use Rattle.item_text.specs.Props.{value_of}
use Rattle.item_text.specs.Valid.{is_type_value}
use Rattle.item_text.specs.declared.item.Item.{Item}
use Rattle.law_kept.specs.Acts.{Saved, FileHistory}
use Rattle.law_kept.specs.Fair.{StandsAsRead, IsFair, file_bytes}
use Rattle.law_kept.specs.Fates.{Has, CopyStands, IsLost}
use Rattle.law_kept.specs.Honest.{is_honest_from}
use Rattle.law_kept.specs.Refusals.{refused_from, refused_places, LosesNote, IsLostByRefused, IsLostByLie, IsLostByGap}
use Rattle.law_kept.specs.Standing.{opening_world, world_from, world_end}
use Rattle.law_kept.specs.Stories.{first_client, second_client, changes, a_lettered_note, a_notebook, read_as_note, read_as_notebook, a_copied_conflict, a_lost_answer, a_stale_put, an_uncopied_conflict, an_uncopied_loss, a_take_over_a_change, an_old_check, an_unheard_upload, a_save_within, an_unasked_delete, a_gap, a_lie, a_changed_notebook}
use Rattle.law_kept.proofs.Crossings.{puts_uncrossed, gapless}
use Rattle.law_kept.proofs.Losses.{is_copied_in, goes_in, are_of_two, is_lost}
use Rattle.law_kept.proofs.Obeying.{all_obey}

-- ---- fair histories

fair_if : (reads : List ℕ → Option Item) (h : FileHistory) → StandsAsRead reads h.opening
    → is_honest_from (file_bytes h.opening) h.steps ≡ true → refused_places reads h ≡ []
    → puts_uncrossed (opening_world h.opening) h.steps ≡ true → IsFair reads h
fair_if reads h opening honest none uncrossed = record {
  opening = opening;
  honest = honest;
  obey = all_obey reads h none;
  gapless = gapless h.opening h.steps uncrossed;
}

pub conflict_fair : IsFair read_as_note a_copied_conflict
unfolding is_honest_from refused_from puts_uncrossed value_of is_type_value
conflict_fair = fair_if read_as_note a_copied_conflict tt refl refl refl

pub lost_answer_fair : IsFair read_as_note a_lost_answer
unfolding is_honest_from refused_from puts_uncrossed value_of is_type_value
lost_answer_fair = fair_if read_as_note a_lost_answer tt refl refl refl

pub conflict_copied : CopyStands (world_end a_copied_conflict) first_client (a_lettered_note 3)
unfolding world_from Has
conflict_copied = record {
  copy = record { number = 1; item = a_lettered_note 3 };
  there = inl refl;
  stands = refl;
}

pub notebook_fair : IsFair read_as_notebook a_changed_notebook
unfolding is_honest_from refused_from puts_uncrossed value_of is_type_value
notebook_fair = fair_if read_as_notebook a_changed_notebook refl refl refl refl

-- ---- histories in which a note is lost

refused_if : (reads : List ℕ → Option Item) (h : FileHistory) (place : ℕ) (item : Item)
    → StandsAsRead reads h.opening → is_honest_from (file_bytes h.opening) h.steps ≡ true
    → refused_places reads h ≡ place ∷ []
    → puts_uncrossed (opening_world h.opening) h.steps ≡ true → LosesNote h item
    → IsLostByRefused reads h place item
refused_if reads h place item opening honest refused uncrossed loses = record {
  opening = opening;
  honest = honest;
  gapless = gapless h.opening h.steps uncrossed;
  refused = refused;
  loses = loses;
}

stale_put_loses : LosesNote a_stale_put (a_lettered_note 3)
unfolding goes_in world_from are_of_two is_copied_in value_of is_type_value
stale_put_loses = record {
  note = refl;
  saved = (8, record { step = changes first_client (Saved (a_lettered_note 3)); here = refl; by = refl });
  lost = is_lost a_stale_put (a_lettered_note 3) (record {
    same = refl;
    by_two = refl;
    never = refl;
    file = refl;
    first = refl;
    second = refl;
  });
}

pub stale_put : IsLostByRefused read_as_note a_stale_put 17 (a_lettered_note 3)
unfolding is_honest_from refused_from puts_uncrossed value_of is_type_value
stale_put = refused_if read_as_note a_stale_put 17 (a_lettered_note 3) refl refl refl refl stale_put_loses

uncopied_conflict_loses : LosesNote an_uncopied_conflict (a_lettered_note 3)
unfolding goes_in world_from are_of_two is_copied_in value_of is_type_value
uncopied_conflict_loses = record {
  note = refl;
  saved = (10, record { step = changes first_client (Saved (a_lettered_note 3)); here = refl; by = refl });
  lost = is_lost an_uncopied_conflict (a_lettered_note 3) (record {
    same = refl;
    by_two = refl;
    never = refl;
    file = refl;
    first = refl;
    second = refl;
  });
}

pub uncopied_conflict : IsLostByRefused read_as_note an_uncopied_conflict 18 (a_lettered_note 3)
unfolding is_honest_from refused_from puts_uncrossed value_of is_type_value
uncopied_conflict =
    refused_if read_as_note an_uncopied_conflict 18 (a_lettered_note 3) tt refl refl refl
    uncopied_conflict_loses

uncopied_loss_loses : LosesNote an_uncopied_loss (a_lettered_note 2)
unfolding goes_in world_from are_of_two is_copied_in value_of is_type_value
uncopied_loss_loses = record {
  note = refl;
  saved = (4, record { step = changes first_client (Saved (a_lettered_note 2)); here = refl; by = refl });
  lost = is_lost an_uncopied_loss (a_lettered_note 2) (record {
    same = refl;
    by_two = refl;
    never = refl;
    file = refl;
    first = refl;
    second = refl;
  });
}

pub uncopied_loss : IsLostByRefused read_as_note an_uncopied_loss 16 (a_lettered_note 2)
unfolding is_honest_from refused_from puts_uncrossed value_of is_type_value
uncopied_loss =
    refused_if read_as_note an_uncopied_loss 16 (a_lettered_note 2) refl refl refl refl uncopied_loss_loses

take_over_a_change_loses : LosesNote a_take_over_a_change (a_lettered_note 2)
unfolding goes_in world_from are_of_two is_copied_in value_of is_type_value
take_over_a_change_loses = record {
  note = refl;
  saved = (0, record { step = changes first_client (Saved (a_lettered_note 2)); here = refl; by = refl });
  lost = is_lost a_take_over_a_change (a_lettered_note 2) (record {
    same = refl;
    by_two = refl;
    never = refl;
    file = refl;
    first = refl;
    second = refl;
  });
}

pub take_over_a_change : IsLostByRefused read_as_note a_take_over_a_change 3 (a_lettered_note 2)
unfolding is_honest_from refused_from puts_uncrossed value_of is_type_value
take_over_a_change =
    refused_if read_as_note a_take_over_a_change 3 (a_lettered_note 2) refl refl refl refl
    take_over_a_change_loses

old_check_loses : LosesNote an_old_check (a_lettered_note 2)
unfolding goes_in world_from are_of_two is_copied_in value_of is_type_value
old_check_loses = record {
  note = refl;
  saved = (12, record { step = changes second_client (Saved (a_lettered_note 2)); here = refl; by = refl });
  lost = is_lost an_old_check (a_lettered_note 2) (record {
    same = refl;
    by_two = refl;
    never = refl;
    file = refl;
    first = refl;
    second = refl;
  });
}

pub old_check : IsLostByRefused read_as_note an_old_check 19 (a_lettered_note 2)
unfolding is_honest_from refused_from puts_uncrossed value_of is_type_value
old_check = refused_if read_as_note an_old_check 19 (a_lettered_note 2) refl refl refl refl old_check_loses

unheard_upload_loses : LosesNote an_unheard_upload (a_lettered_note 1)
unfolding goes_in world_from are_of_two is_copied_in value_of is_type_value
unheard_upload_loses = record {
  note = refl;
  saved = (0, record { step = changes first_client (Saved (a_lettered_note 1)); here = refl; by = refl });
  lost = is_lost an_unheard_upload (a_lettered_note 1) (record {
    same = refl;
    by_two = refl;
    never = refl;
    file = refl;
    first = refl;
    second = refl;
  });
}

pub unheard_upload : IsLostByRefused read_as_note an_unheard_upload 4 (a_lettered_note 1)
unfolding is_honest_from refused_from puts_uncrossed value_of is_type_value
unheard_upload =
    refused_if read_as_note an_unheard_upload 4 (a_lettered_note 1) tt refl refl refl unheard_upload_loses

save_within_loses : LosesNote a_save_within (a_lettered_note 2)
unfolding goes_in world_from are_of_two is_copied_in value_of is_type_value
save_within_loses = record {
  note = refl;
  saved = (4, record { step = changes first_client (Saved (a_lettered_note 2)); here = refl; by = refl });
  lost = is_lost a_save_within (a_lettered_note 2) (record {
    same = refl;
    by_two = refl;
    never = refl;
    file = refl;
    first = refl;
    second = refl;
  });
}

pub save_within : IsLostByRefused read_as_note a_save_within 4 (a_lettered_note 2)
unfolding is_honest_from refused_from puts_uncrossed value_of is_type_value
save_within = refused_if read_as_note a_save_within 4 (a_lettered_note 2) tt refl refl refl save_within_loses

unasked_delete_loses : LosesNote an_unasked_delete (a_lettered_note 1)
unfolding goes_in world_from are_of_two is_copied_in value_of is_type_value
unasked_delete_loses = record {
  note = refl;
  saved = (0, record { step = changes first_client (Saved (a_lettered_note 1)); here = refl; by = refl });
  lost = is_lost an_unasked_delete (a_lettered_note 1) (record {
    same = refl;
    by_two = refl;
    never = refl;
    file = refl;
    first = refl;
    second = refl;
  });
}

pub unasked_delete : IsLostByRefused read_as_note an_unasked_delete 7 (a_lettered_note 1)
unfolding is_honest_from refused_from puts_uncrossed value_of is_type_value
unasked_delete =
    refused_if read_as_note an_unasked_delete 7 (a_lettered_note 1) tt refl refl refl unasked_delete_loses

gap_loses : LosesNote a_gap (a_lettered_note 1)
unfolding goes_in world_from are_of_two is_copied_in value_of is_type_value
gap_loses = record {
  note = refl;
  saved = (0, record { step = changes first_client (Saved (a_lettered_note 1)); here = refl; by = refl });
  lost = is_lost a_gap (a_lettered_note 1) (record {
    same = refl;
    by_two = refl;
    never = refl;
    file = refl;
    first = refl;
    second = refl;
  });
}

pub crossed : IsLostByGap read_as_note a_gap (a_lettered_note 1)
unfolding is_honest_from refused_from value_of is_type_value
crossed = record {
  opening = tt;
  honest = refl;
  obey = all_obey read_as_note a_gap refl;
  loses = gap_loses;
}

lie_loses : LosesNote a_lie (a_lettered_note 3)
unfolding goes_in world_from are_of_two is_copied_in value_of is_type_value
lie_loses = record {
  note = refl;
  saved = (8, record { step = changes first_client (Saved (a_lettered_note 3)); here = refl; by = refl });
  lost = is_lost a_lie (a_lettered_note 3) (record {
    same = refl;
    by_two = refl;
    never = refl;
    file = refl;
    first = refl;
    second = refl;
  });
}

pub lied : IsLostByLie read_as_note a_lie (a_lettered_note 3)
unfolding refused_from puts_uncrossed value_of is_type_value
lied = record {
  opening = refl;
  obey = all_obey read_as_note a_lie refl;
  gapless = gapless a_lie.opening a_lie.steps refl;
  loses = lie_loses;
}

-- ---- what isn't kept

pub notebook_lost : IsLost a_changed_notebook (a_notebook 2)
unfolding goes_in world_from are_of_two is_copied_in value_of is_type_value
notebook_lost = is_lost a_changed_notebook (a_notebook 2) (record {
  same = refl;
  by_two = refl;
  never = refl;
  file = refl;
  first = refl;
  second = refl;
})

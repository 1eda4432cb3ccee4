-- What became of a piece is told by the kept events: it is over exactly where they end it.
use Rattle.std.proofs.Common.{◌≡◌, ◌↔◌, ℕ, Bool, true, false, find, is_some, Option, Some, None, sym, refl, ap, ◌∙◌, arith, if◌then◌else◌}
use Rattle.std.specs.List.{list_any}
use Rattle.machine_model.specs.declared.replies.PieceState.TheVariants.{Out, Over}
use Rattle.machine_model.specs.Moment.{Moment, Lost}
use Rattle.machine_model.specs.Pieces.{hands, is_finished, runs, dropped_or_over, event_of_lost, state_of}
use Rattle.machine_model.specs.Runs.{now}
use Rattle.machine_model.specs.PieceLaws.{OverIsFinished}
use Rattle.machine_model.proofs.Counting.{count-some, count-none, some-count, none-count, found-any}
use Rattle.machine_model.proofs.Snoc.{now-kept}
use Rattle.machine_model.proofs.PieceCounts.{Counted, is_number, is_lost_number, ends_piece, run-counted}

module _ (m : Moment) (n : ℕ) (c : Counted m) (handed : list_any (is_number n) (hands m.kept) ≡ true) where
  -- a piece that is out isn't finished
  out_unfinished : runs m n ≡ true → is_finished m.kept n ≡ false
  out_unfinished is = none-count (ends_piece n) m.kept (let a = count-some (is_number n) m.out is in let o = c.once n in let p = c.parted n in omega arith)

  -- nor is a lost one
  lost_unfinished : list_any (is_lost_number n) m.lost ≡ true → is_finished m.kept n ≡ false
  lost_unfinished is = none-count (ends_piece n) m.kept (let a = count-some (is_lost_number n) m.lost is in let o = c.once n in let p = c.parted n in omega arith)

  -- one that is neither is
  else_finished : runs m n ≡ false → list_any (is_lost_number n) m.lost ≡ false → is_finished m.kept n ≡ true
  else_finished out lost = some-count (ends_piece n) m.kept
      (let a = count-none (is_number n) m.out out in let b = count-none (is_lost_number n) m.lost lost in let h = count-some (is_number n) (hands m.kept) handed in let p = c.parted n in omega arith)

  by_cases : (t : Bool) (o : Option Lost) → runs m n ≡ t → find (is_lost_number n) m.lost ≡ o
      → ((if t then Out else dropped_or_over (event_of_lost o)) ≡ Over) ↔ (is_finished m.kept n ≡ true)
  by_cases true o is found = (λ e. absurd (cc), λ f. let u = out_unfinished is in absurd (cc))
  by_cases false None is found = (λ e. else_finished is (sym (found-any (is_lost_number n) m.lost) ∙ ap is_some found), λ f. refl)
  by_cases false (Some l) is found = (λ e. absurd (cc), λ f. let u = lost_unfinished (sym (found-any (is_lost_number n) m.lost) ∙ ap is_some found) in absurd (cc))

  pub over_is_finished_at : (state_of m n ≡ Over) ↔ (is_finished m.kept n ≡ true)
  over_is_finished_at = by_cases (runs m n) (find (is_lost_number n) m.lost) refl refl

pub over_is_finished : OverIsFinished
over_is_finished table s n run handed =
    let m = now table s in
    let kept = now-kept table s in
    let both = over_is_finished_at m n (run-counted table s run)
    (ap (λ ks. list_any (is_number n) (hands ks)) kept ∙ (sym (found-any (is_number n) (hands s.kept)) ∙ handed)) in
    (λ over. sym (ap (λ ks. is_finished ks n) kept) ∙ both.0 over, λ finished. both.1 (ap (λ ks. is_finished ks n) kept ∙ finished))

use Rattle.std.proofs.Common.{inl, inr, refl, sym, ◌∙◌, ap, subst}
use Rattle.history_files.specs.Standing.{AreGoodBooks}
use Rattle.history_files.proofs.BoxKinds.{all_parted}
use Rattle.history_opening.specs.Comparing.{books_difference}
use Rattle.history_opening.specs.Opening.{IsDueToOpening}
use Rattle.history_opening.proofs.Differing.{come_to}
use Rattle.history_opening.proofs.FewActs.{acts_counted}
use Rattle.history_opening.proofs.Opened.{due_to_book, read_of}
use Rattle.history_opening.proofs.opening.read_sound.Goals.{in-Ok-Some, in-Err-books_difference}
use Rattle.history_opening.proofs.opening.read_sound.Goals as goal

pub books_difference-requires-clause-few : goal.books_difference-requires-clause-few
books_difference-requires-clause-few g c = acts_counted c.in-Ok.read.catalog c.in-Ok.read.history c.in-Ok.ensures.journal.2

pub books_difference-requires-clause-good : goal.books_difference-requires-clause-good
books_difference-requires-clause-good g c = subst AreGoodBooks (sym c.deref.ensures.value) c.in-Ok.ensures.stores.good

pub returns-in-Ok-None-clause-come : goal.returns-in-Ok-None-clause-come
returns-in-Ok-None-clause-come g c =
    let read = c.in-Ok.read in
    come_to read.catalog.ops read.history read.stores.items
    (ap (λ ops. books_difference ops read.history 0 read.stores.items) (sym c.as_slice.ensures)
    ∙ ap (λ ss. books_difference c.as_slice.result.now read.history 0 ss) (sym c.deref.ensures.value) ∙ sym c.in-Ok-None.ensures ∙ c.in-Ok-None.field-0-is)

pub returns-in-Ok-None-clause-stand : goal.returns-in-Ok-None-clause-stand
returns-in-Ok-None-clause-stand g c told = record {
  journal = (c.in-Ok.ensures.stand told).journal;
  stores = (c.in-Ok.ensures.stand told).stores;
  good = c.in-Ok.ensures.stores.good;
  books = returns-in-Ok-None-clause-come g c;
}

pub put_back-requires-clause-parted : goal.put_back-requires-clause-parted
put_back-requires-clause-parted g c = all_parted g.B.Resource.sort c.in-Ok.read.stores.items c.read_files.new.boxes.items c.in-Ok.ensures.stores.stores c.in-Ok.ensures.boxes.emptied

pub returns-clause-due : goal.returns-clause-due
returns-clause-due g c told =
    let read = c.in-Ok.read in
    let files = (g.R.Rack.disk c.args.rack.now).files in
    elim c.match-books_difference.branch [
      | in-Ok-Some w ↦ subst (IsDueToOpening files) (sym w.why-is)
          (inr (inr (due_to_book read.catalog read.history files read.stores.items _ c.in-Ok.ensures.stores.stores
          (read_of read.catalog read.history read.journal (g.R.Rack.disk c.args.rack.now) (g.R.Rack.disk c.read_files.new.rack) (c.in-Ok.ensures.stand told).journal c.in-Ok.ensures.journal.0 (c.in-Ok.ensures.all told))
          (c.in-Ok.ensures.read told)
          (ap (λ ops. books_difference ops read.history 0 read.stores.items) (sym c.as_slice.ensures)
          ∙ ap (λ ss. books_difference c.as_slice.result.now read.history 0 ss) (sym c.deref.ensures.value) ∙ sym w.in-Ok-Some.ensures ∙ w.in-Ok-Some.field-0-is))))
      | in-Err-books_difference w ↦ subst (IsDueToOpening files) (sym w.why-is) (inl refl)
    ]

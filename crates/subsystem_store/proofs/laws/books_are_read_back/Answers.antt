use Rattle.subsystem_store.proofs.BooksBack.{books_are_read_back, either_is_read_back}
use Rattle.subsystem_store.proofs.laws.books_are_read_back.Goals as goal

pub returns : goal.returns
returns c = record { file = books_are_read_back; either = either_is_read_back }

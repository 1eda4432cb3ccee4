use Rattle.subsystem_store.proofs.GoodBooks.{empty_is_good, prepared_is_good, committed_is_good, rolled_back_is_good, read_is_good}
use Rattle.subsystem_store.proofs.laws.calls_make_good_books.Goals as goal

pub returns : goal.returns
returns c = record { create = empty_is_good; prepare = prepared_is_good; commit = committed_is_good; roll_back = rolled_back_is_good; read = read_is_good }

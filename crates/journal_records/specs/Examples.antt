-- Worked records.
use Rattle.std.specs.Prelude.{◌≡◌, true, [], ◌∷◌, Some, None, codes, refl}
use Rattle.journal_records.specs.declared.record.Record.TheVariants.{Start, Act, End}
use Rattle.journal_records.specs.Bytes.{bytes_of, record_of, entry_told}

-- the undo of step 258 of process 1
bytes_of_an_undo : bytes_of (Act (entry_told 1 258 true)) ≡ 2 ∷ 1 ∷ 0 ∷ 0 ∷ 0 ∷ 2 ∷ 1 ∷ 1 ∷ []
bytes_of_an_undo = refl

undo_read_back : record_of (2 ∷ 1 ∷ 0 ∷ 0 ∷ 0 ∷ 2 ∷ 1 ∷ 1 ∷ []) ≡ Some (Act (entry_told 1 258 true))
undo_read_back = refl

bytes_of_a_start : bytes_of (Start 1 (codes "x")) ≡ 1 ∷ 1 ∷ 0 ∷ 0 ∷ 0 ∷ 120 ∷ []
bytes_of_a_start = refl

end_read_back : record_of (3 ∷ 0 ∷ 1 ∷ 0 ∷ 0 ∷ []) ≡ Some (End 256)
end_read_back = refl

-- a step is 0 and an undo 1
no_act_of_2 : record_of (2 ∷ 1 ∷ 0 ∷ 0 ∷ 0 ∷ 0 ∷ 0 ∷ 2 ∷ []) ≡ None
no_act_of_2 = refl

-- an end has five bytes
no_longer_end : record_of (3 ∷ 1 ∷ 0 ∷ 0 ∷ 0 ∷ 0 ∷ []) ≡ None
no_longer_end = refl

-- no record begins with 4
no_record_of_4 : record_of (4 ∷ 1 ∷ 0 ∷ 0 ∷ 0 ∷ []) ≡ None
no_record_of_4 = refl

no_bytes : record_of [] ≡ None
no_bytes = refl

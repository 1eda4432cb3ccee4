-- What a log's writes make of a file that it wrote.
use Rattle.std.proofs.Common.{◌≡◌, ◌≢◌, ℕ, ◌+◌, ◌<◌, List, [], ◌∷◌, ◌++◌, length, drop, refl, sym, ◌∙◌, ap, subst, arith, append_assoc, append-nil, length-append}
use Rattle.std.proofs.lemmas.List.{drop_all}
use Rattle.std.proofs.lemmas.Grind.{flat_map-append}
use Rattle.std.specs.List.{flat_map}
use Rattle.process_disk.specs.Disk.{FileSet, Disk, IsHonest, file_of, put, written}
use Rattle.gate_log.specs.LogFile.{header, framed, plain_log, records_size, end_of}
use Rattle.gate_log.specs.Staging.{plain_records}
use Rattle.gate_log.proofs.Crash.{Round, back, through, written_at}
use Rattle.gate_log.proofs.Appending.{file_of_put, nine_files}

-- a record as a log writes it
abbrev record_of : List ℕ → List ℕ
record_of body = 1 ∷ framed body

plain_size : (bodies : List (List ℕ)) → length (flat_map record_of bodies) ≡ records_size bodies
plain_size [] = refl
plain_size (body ∷ bodies) = omega (arith, plain_size bodies, length-append (record_of body) (flat_map record_of bodies))

-- the parts round the closed gate
plain_gate : (version q : ℕ) (bodies : List (List ℕ)) (file : List ℕ) → file ≡ plain_log version q bodies → Round (end_of bodies) (header version q ++ flat_map record_of bodies) 0 [] file
plain_gate version q bodies file is = record { length_is = omega (arith, plain_size bodies, length-append (header version q) (flat_map record_of bodies)); is = is }

regroup : (before record' : List ℕ) → ((before ++ 0 ∷ []) ++ (record' ++ 0 ∷ [])) ++ [] ≡ before ++ 0 ∷ (record' ++ 0 ∷ [])
regroup before record' = simp (append_assoc, append-nil)

-- records written behind it, the first without its gate
plain_behind : (version q : ℕ) (bodies : List (List ℕ)) (tail file : List ℕ) → file ≡ plain_log version q bodies → written file (end_of bodies + 1) (tail ++ 0 ∷ []) ≡ (header version q ++ flat_map record_of bodies) ++ 0 ∷ (tail ++ 0 ∷ [])
plain_behind version q bodies tail file is =
    let before = header version q ++ flat_map record_of bodies in
    let bytes = tail ++ 0 ∷ [] in
    let end = end_of bodies in
    let gate = plain_gate version q bodies file is in
    let size : length file ≡ end + 1 = omega (arith, ap length gate.is, gate.length_is, length-append before (0 ∷ [])) in
    let none : drop (end + 1 + length bytes) file ≡ [] = drop_all (end + 1 + length bytes) file (omega (arith, size)) in
    ap (λ (l : List ℕ). l ++ bytes ++ drop (end + 1 + length bytes) file) (through end before 0 [] file gate)
    ∙ ap (λ (l : List ℕ). (before ++ 0 ∷ []) ++ bytes ++ l) none
    ∙ regroup before tail

regroup_last : (head records record' : List ℕ) → (head ++ records) ++ (1 ∷ []) ++ (record' ++ 0 ∷ []) ≡ head ++ (records ++ 1 ∷ record') ++ 0 ∷ []
regroup_last head records record' = simp append_assoc

last_ones : (version q : ℕ) (bodies : List (List ℕ)) (body : List ℕ) (more : List (List ℕ))
    → (header version q ++ flat_map record_of bodies) ++ (1 ∷ []) ++ ((framed body ++ flat_map record_of more) ++ 0 ∷ []) ≡ plain_log version q (bodies ++ body ∷ more)
last_ones version q bodies body more =
    regroup_last (header version q) (flat_map record_of bodies) (framed body ++ flat_map record_of more) ∙ ap (λ (l : List ℕ). header version q ++ l ++ 0 ∷ []) (sym (flat_map-append record_of bodies (body ∷ more)))

-- and the first gate opened
plain_opened : (version q : ℕ) (bodies : List (List ℕ)) (body : List ℕ) (more : List (List ℕ)) (file : List ℕ) → file ≡ (header version q ++ flat_map record_of bodies) ++ 0 ∷ ((framed body ++ flat_map record_of more) ++ 0 ∷ [])
    → written file (end_of bodies) (1 ∷ []) ≡ plain_log version q (bodies ++ body ∷ more)
plain_opened version q bodies body more file is =
    let before = header version q ++ flat_map record_of bodies in
    let rest = (framed body ++ flat_map record_of more) ++ 0 ∷ [] in
    let gate : Round (end_of bodies) before 0 rest file = record { length_is = omega (arith, plain_size bodies, length-append (header version q) (flat_map record_of bodies)); is = is } in
    written_at (end_of bodies) before 0 rest file (1 ∷ []) gate
    ∙ ap (λ (l : List ℕ). before ++ (1 ∷ []) ++ l) (back (end_of bodies) before 0 rest file gate)
    ∙ last_ones version q bodies body more

-- what several records and their first gate make of a file that a log wrote
pub plain_with : (version q end : ℕ) (bodies more : List (List ℕ)) (old mid new : Disk) → IsHonest old → IsHonest mid → q < 9 → end ≡ end_of bodies → more ≢ []
    → mid.files ≡ put old.files q (end + 1) (drop 1 (plain_records more)) → new.files ≡ put mid.files q end (1 ∷ []) → file_of old.files q ≡ plain_log version q bodies → file_of new.files q ≡ plain_log version q (bodies ++ more)
plain_with version q end bodies [] old mid new honest honest_mid below at some first second plain = absurd (some refl)
plain_with version q end bodies (body ∷ more) old mid new honest honest_mid below at some first second plain =
    let tail = framed body ++ flat_map record_of more in
    let put_records : mid.files ≡ put old.files q (end_of bodies + 1) (tail ++ 0 ∷ []) = subst (λ e. mid.files ≡ put old.files q (e + 1) (tail ++ 0 ∷ [])) at first in
    let put_gate : new.files ≡ put mid.files q (end_of bodies) (1 ∷ []) = subst (λ e. new.files ≡ put mid.files q e (1 ∷ [])) at second in
    let staged : file_of mid.files q ≡ (header version q ++ flat_map record_of bodies) ++ 0 ∷ (tail ++ 0 ∷ []) =
    ap (λ (files : FileSet). file_of files q) put_records ∙ file_of_put old.files q (end_of bodies + 1) (tail ++ 0 ∷ []) (omega (arith, nine_files old honest)) ∙ plain_behind version q bodies tail (file_of old.files q) plain in
    ap (λ (files : FileSet). file_of files q) put_gate ∙ file_of_put mid.files q (end_of bodies) (1 ∷ []) (omega (arith, nine_files mid honest_mid)) ∙ plain_opened version q bodies body more (file_of mid.files q) staged

-- what the first write makes of an empty file
pub plain_created : (version q : ℕ) (bytes : List ℕ) (old new : Disk) → IsHonest old → q < 9 → file_of old.files q ≡ [] → bytes ≡ header version q ++ 0 ∷ [] → new.files ≡ put old.files q 0 bytes → file_of new.files q ≡ plain_log version q []
plain_created version q bytes old new honest below empty are is =
    let first : new.files ≡ put old.files q 0 (header version q ++ 0 ∷ []) = subst (λ (bs : List ℕ). new.files ≡ put old.files q 0 bs) are is in
    ap (λ (files : FileSet). file_of files q) first ∙ file_of_put old.files q 0 (header version q ++ 0 ∷ []) (omega (arith, nine_files old honest)) ∙ ap (λ (file : List ℕ). written file 0 (header version q ++ 0 ∷ [])) empty

-- The bytes of a record in the buffer.
use Rattle.std.specs.Prelude.{slice_set}
use Rattle.std.proofs.Common.{◌≡◌, ℕ, ◌+◌, ◌<◌, ◌≤◌, suc, List, [], ◌∷◌, ◌++◌, length, take, drop, refl, sym, ◌∙◌, ap, arith, append_assoc, append-nil, length-append, take-append-drop}
use Rattle.std.proofs.lemmas.List.{take_at, take-take, take_more_set, length-drop, length-take-le}
use Rattle.std.proofs.lemmas.Grind.{flat_map-append}
use Rattle.gate_log.specs.LogFile.{framed}
use Rattle.gate_log.specs.Staging.{plain_records, staged_in}
use Rattle.gate_log.proofs.Staging.{plain, plain_size, staged_is, fewer}

-- three bytes, a body and a byte at the front of a buffer
pub framed_front : (head body rest : List ℕ) (gate low high last : ℕ) → length head ≡ 3 → length body < length rest
    → take (length body + 4) (slice_set (slice_set (slice_set head 0 gate) 1 low) 2 high ++ slice_set (body ++ drop (length body) rest) (length body) last) ≡ gate ∷ low ∷ high ∷ (body ++ last ∷ [])
framed_front [] body rest gate low high last three room = absurd (omega arith)
framed_front (x ∷ []) body rest gate low high last three room = absurd (omega arith)
framed_front (x ∷ y ∷ []) body rest gate low high last three room = absurd (omega arith)
framed_front (x ∷ y ∷ z ∷ w ∷ head) body rest gate low high last three room = absurd (omega arith)
framed_front (x ∷ y ∷ z ∷ []) body rest gate low high last three room =
    let n = length body in
    let size : n + 4 ≡ suc (suc (suc (n + 1))) = omega arith in
    let all = body ++ drop n rest in
    let behind : take (n + 1) (slice_set all n last) ≡ body ++ last ∷ [] =
    take_more_set all n last (omega (arith, length-append body (drop n rest), length-drop n rest)) ∙ ap (λ (l : List ℕ). l ++ last ∷ []) (take_at body (drop n rest) n refl) in
    rw size (ap (λ (l : List ℕ). gate ∷ low ∷ high ∷ l) behind)

-- bytes at the front of what follows a place, seen from the front of all
pub framed_behind : (at n : ℕ) (front rest buffer back bytes : List ℕ) → buffer ≡ front ++ back → length front ≡ at → take n rest ≡ bytes → n ≤ length rest → take (at + n) (front ++ rest) ≡ take at buffer ++ bytes
framed_behind at n front rest buffer back bytes is size taken room =
    let whole : front ++ rest ≡ (front ++ bytes) ++ drop n rest =
    ap (λ (l : List ℕ). front ++ l) (sym (take-append-drop n rest) ∙ ap (λ (l : List ℕ). l ++ drop n rest) taken) ∙ sym (append_assoc front bytes (drop n rest)) in
    let many : length bytes ≡ n = ap length (sym taken) ∙ length-take-le n rest room in
    ap (take (at + n)) whole ∙ take_at (front ++ bytes) (drop n rest) (at + n) (omega (arith, length-append front bytes, size, many))
    ∙ ap (λ (l : List ℕ). l ++ bytes) (sym (ap (take at) is ∙ take_at front back at size))

-- staged records, with one more behind them
pub record_added : (bodies : List (List ℕ)) (body old new : List ℕ) (n : ℕ) → n + 1 ≤ length old → take (n + 1) old ≡ plain_records bodies → take (n + (length body + 4)) new ≡ take n old ++ (1 ∷ framed body ++ 0 ∷ [])
    → take (n + (3 + length body) + 1) new ≡ plain_records (bodies ++ body ∷ [])
record_added bodies body old new n room are is =
    let many : length (plain bodies) ≡ n = omega (arith, sym (length-take-le (n + 1) old room) ∙ ap length are ∙ length-append (plain bodies) (0 ∷ [])) in
    let front : take n old ≡ plain bodies = sym (take-take n (n + 1) old (omega arith)) ∙ ap (take n) are ∙ take_at (plain bodies) (0 ∷ []) n many in
    let place : n + (3 + length body) + 1 ≡ n + (length body + 4) = omega arith in
    let all : plain (bodies ++ body ∷ []) ≡ plain bodies ++ 1 ∷ framed body = flat_map-append (λ (b : List ℕ). 1 ∷ framed b) bodies (body ∷ []) ∙ ap (λ (l : List ℕ). plain bodies ++ 1 ∷ l) (append-nil (framed body)) in
    ap (λ k. take k new) place ∙ is ∙ ap (λ (l : List ℕ). l ++ (1 ∷ framed body ++ 0 ∷ [])) front ∙ sym (append_assoc (plain bodies) (1 ∷ framed body) (0 ∷ [])) ∙ ap (λ (l : List ℕ). l ++ 0 ∷ []) (sym all)

-- what is known of the bytes of staged bodies and of their number
pub record StagedBytes (bodies : List (List ℕ)) (n number : ℕ) (bytes : List ℕ) : Type 0 where
  pub long : length bytes ≡ 65539
  pub room : n ≤ 65538
  pub are : take (n + 1) bytes ≡ plain_records bodies
  pub count : number ≡ length bodies

-- there are as many bodies as bytes at most
pub count_within : (bodies : List (List ℕ)) (n count : ℕ) (bytes : List ℕ) → StagedBytes bodies n count bytes → count ≤ 65538
count_within bodies n count bytes staged =
    omega (arith, fewer bodies, plain_size bodies, ap length staged.are, length-take-le (n + 1) bytes (omega (arith, staged.long, staged.room)), staged.room, staged.count)

-- with one body more, in bytes that are these as new
pub view_grown : (bodies : List (List ℕ)) (body old new items : List ℕ) (n count : ℕ) → StagedBytes bodies n count old → items ≡ new → take (n + (length body + 4)) new ≡ take n old ++ (1 ∷ framed body ++ 0 ∷ [])
    → staged_in (take (n + (3 + length body) + 1) items) ≡ bodies ++ body ∷ []
view_grown bodies body old new items n count staged is bytes =
    ap (λ (l : List ℕ). staged_in (take (n + (3 + length body) + 1) l)) is
    ∙ ap staged_in (record_added bodies body old new n (omega (arith, staged.long, staged.room)) staged.are bytes)
    ∙ staged_is (bodies ++ body ∷ [])

pub staged_grown : (bodies : List (List ℕ)) (body old new items : List ℕ) (n count : ℕ) → StagedBytes bodies n count old → items ≡ new → length new ≡ length old → n + (3 + length body) ≤ 65538
    → take (n + (length body + 4)) new ≡ take n old ++ (1 ∷ framed body ++ 0 ∷ [])
    → (length items ≡ 65539) × (n + (3 + length body) ≤ 65538) × (take (n + (3 + length body) + 1) items ≡ plain_records (staged_in (take (n + (3 + length body) + 1) items)))
    × (count + 1 ≡ length (staged_in (take (n + (3 + length body) + 1) items)))
staged_grown bodies body old new items n count staged is same room bytes =
    let view = view_grown bodies body old new items n count staged is bytes in
    let all = record_added bodies body old new n (omega (arith, staged.long, staged.room)) staged.are bytes in (
      ap length is ∙ same ∙ staged.long,
      room,
      ap (take (n + (3 + length body) + 1)) is ∙ all ∙ ap plain_records (sym view),
      omega (arith, ap length view, length-append bodies (body ∷ []), staged.count),
    )

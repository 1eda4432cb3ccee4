-- What a source keeps of the bytes that it hands on.
use Rattle.std.specs.Prelude.{◌≡◌, ◌+◌, ◌<◌, ◌≤◌, ℕ, Bool, true, false, ◌&&◌, List, ◌++◌, take, length, nat_le, ⊤}
use Rattle.std.specs.Prelude.{Option, Some, None, Result, Ok, Err}
use Rattle.std.proofs.Props.{props}
use Rattle.std.specs.Io.KnownBytes.{Consumes}
use Rattle.process_flow.specs.declared.Failed.{Failed}
use Rattle.kept_source.specs.declared.kept.TheConstants.{MOST_KEPT}

-- bytes that were handed on behind these, if all before are kept: they are kept too where they fit, and else none is any more
abbrev pub IsKeptBehind : Bool → List ℕ → List ℕ → Bool → List ℕ → Type 0
IsKeptBehind true before bytes whole after = (whole ≡ true) × (after ≡ before ++ bytes)
IsKeptBehind false before bytes whole after = (whole ≡ false) × (after ≡ before)

-- whether bytes are kept behind so many, if all before are kept
abbrev pub fits : Bool → ℕ → ℕ → Bool
fits whole before more = whole && nat_le (before + more) MOST_KEPT

-- after a call: the bytes that were handed on are kept as far as there is room for them; a failed one changes nothing
abbrev pub IsKept : Bool → List ℕ → Bool → List ℕ → Result ℕ Failed → List ℕ → Type 0
IsKept whole before whole_after after (Ok n) buf =
    IsKeptBehind (fits whole (length before) (length (take n buf))) before (take n buf) whole_after after
IsKept whole before whole_after after (Err failed) buf = (whole_after ≡ whole) × (after ≡ before)

-- more was handed on since a source had this left than is kept at most
abbrev pub IsTooMuch : Option (List ℕ) → Option (List ℕ) → Type 0
IsTooMuch None left = ⊤
IsTooMuch (Some xs) None = ⊥
IsTooMuch (Some xs) (Some ys) = MOST_KEPT + length ys < length xs

-- what is kept of the bytes that were handed on since a source had this left: all of them where they fit, and else none
abbrev pub IsKeptOf : Option (List ℕ) → Option (List ℕ) → Option (List ℕ) → Type 0
IsKeptOf opening left (Some kept) = Consumes opening left kept × (length kept ≤ MOST_KEPT)
IsKeptOf opening left None = IsTooMuch opening left

-- so of a source that says whether all are kept
abbrev pub IsHandedOn : Option (List ℕ) → Option (List ℕ) → List ℕ → Bool → Type 0
IsHandedOn opening left kept true = IsKeptOf opening left (Some kept)
IsHandedOn opening left kept false = IsKeptOf opening left None

pub handed_on_is_a_fact : (opening left : Option (List ℕ)) (kept : List ℕ) (whole : Bool) → IsProp (IsHandedOn opening left kept whole)
handed_on_is_a_fact None left kept true = Prim.hlevel props
handed_on_is_a_fact (Some xs) None kept true = Prim.hlevel props
handed_on_is_a_fact (Some xs) (Some ys) kept true = Prim.hlevel props
handed_on_is_a_fact None left kept false = Prim.hlevel props
handed_on_is_a_fact (Some xs) None kept false = Prim.hlevel props
handed_on_is_a_fact (Some xs) (Some ys) kept false = Prim.hlevel props

pub room_is_a_fact : (m n : ℕ) → IsProp (m ≤ n)
room_is_a_fact m n = Prim.hlevel props

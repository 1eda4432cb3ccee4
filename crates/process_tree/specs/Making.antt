-- What the making of a tree tests, in this order, each over the whole block.
use Rattle.std.specs.Prelude.{ℕ, ◌+◌, Bool, ◌&&◌, List, [], ◌∷◌, length, nat_lt, nat_le, nat_eq, if◌then◌else◌, Option, Some, None}
use Rattle.std.specs.Prelude.{ℤ, pos, negsuc, ◌++◌, codes, decimal}
use Rattle.std.specs.List.{list_any}
use lib.Pointwise.{pointwise}
use Rattle.process_tree.specs.declared.step.Step.{Step}
use Rattle.process_tree.specs.declared.step.StepKind.{StepKind}
use Rattle.process_tree.specs.declared.step.StepKind.TheVariants.{C, P, R, Cr}
use Rattle.process_tree.specs.declared.block.Block.{Block}
use Rattle.process_tree.specs.declared.tree.TreeError.{TreeError}
use Rattle.process_tree.specs.declared.tree.TreeError.TheVariants.{Empty, Steps, Nesting, Alternatives, SameName, Number, NoMemory}
use Rattle.process_tree.specs.Blocks.{Outline, outline}

-- an amount is within a thousand million of 0
abbrev pub is_amount : ℤ → Bool
is_amount (pos n) = nat_le n 1000000000
is_amount (negsuc n) = nat_lt n 1000000000

-- tries are 1 to 64
abbrev pub are_tries : ℕ → Bool
are_tries n = nat_le 1 n && nat_le n 64

-- a gate may be told to refuse 0 to 99
abbrev pub are_refusals : ℕ → Bool
are_refusals n = nat_le n 99

-- the fields of a kind are within their limits, and those that it lacks hold their defaults
abbrev pub has_good_options : StepKind → Step → Bool
has_good_options C s = nat_eq s.tries 3 && are_tries s.undo_tries && are_refusals s.refuse && are_refusals s.undo_refuse
has_good_options P s = nat_eq s.tries 3 && nat_eq s.undo_tries 3 && are_refusals s.refuse && nat_eq s.undo_refuse 0
has_good_options R s = are_tries s.tries && nat_eq s.undo_tries 3 && are_refusals s.refuse && nat_eq s.undo_refuse 0
has_good_options Cr s = are_tries s.tries && are_tries s.undo_tries && are_refusals s.refuse && are_refusals s.undo_refuse

-- each field of the step is within its limits; a key has no others than its type's
abbrev pub is_good_step : Step → Bool
is_good_step s = is_amount s.amount && has_good_options s.kind s

-- whether a text is that one
abbrev pub same_text : List ℕ → List ℕ → Bool
same_text xs ys = pointwise nat_eq xs ys

-- the place of the first step that has the name of an earlier one, of which n stand before
abbrev pub first_same_name : ℕ → List (List ℕ) → List Step → Option ℕ
first_same_name n earlier [] = None
first_same_name n earlier (s ∷ ss) =
    if list_any (same_text s.name) earlier then Some n else first_same_name (n + 1) (s.name ∷ earlier) ss

-- the place of the first step that isn't good, of which n stand before
abbrev pub first_bad_step : ℕ → List Step → Option ℕ
first_bad_step n [] = None
first_bad_step n (s ∷ ss) = if is_good_step s then first_bad_step (n + 1) ss else Some n

-- a refusal, if there is such a place, and else the next
abbrev pub refused_at : (ℕ → TreeError) → Option ℕ → Option TreeError → Option TreeError
refused_at error None next = next
refused_at error (Some n) next = Some (error n)

-- what is refused first of a block that says this, if anything
abbrev pub outline_fault : Outline → Option TreeError
outline_fault o =
    let names = refused_at SameName (first_same_name 0 [] o.steps) (refused_at Number (first_bad_step 0 o.steps) None) in
    if o.has_empty then Some Empty
    else (if nat_lt 256 (length o.steps) then Some (Steps (length o.steps))
    else (if nat_lt 16 o.nesting then Some (Nesting o.nesting)
    else refused_at Alternatives o.odd_choice names))

-- the same of the block
abbrev pub tree_fault : Block → Option TreeError
tree_fault root = outline_fault (outline root)

-- how an error reads
abbrev pub text_of : TreeError → List ℕ
text_of Empty = codes "a block is empty"
text_of (Steps n) = codes "there are " ++ decimal n ++ codes " steps"
text_of (Nesting n) = codes "there are " ++ decimal n ++ codes " choices open at once"
text_of (Alternatives n) = codes "a choice has " ++ decimal n ++ codes " alternatives"
text_of (SameName n) = codes "step " ++ decimal n ++ codes " has the name of an earlier one"
text_of (Number n) = codes "step " ++ decimal n ++ codes " is out of its limits"
text_of NoMemory = codes "out of memory"

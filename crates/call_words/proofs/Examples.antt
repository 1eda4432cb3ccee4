-- Calls as they are written, and their parts; each holds by computing.
use Rattle.std.specs.Prelude.{◌≡◌, [], ◌∷◌, Some, None, codes, refl}
use Rattle.clap.proofs.OnLiterals.{clap_on_literals}
use Rattle.call_words.specs.Parts.{parted}

-- tps -C shop restart
pub in_a_folder : parted (codes "-C" ∷ codes "shop" ∷ codes "restart" ∷ []) ≡ record { folder = Some (codes "shop"); file = None; words = codes "restart" ∷ [] }
unfolding clap_on_literals
in_a_folder = refl

-- tps check orders.process
pub of_a_file : parted (codes "check" ∷ codes "orders.process" ∷ []) ≡ record { folder = None; file = Some (codes "orders.process"); words = codes "check" ∷ [] }
unfolding clap_on_literals
of_a_file = refl

-- tps -C shop run --workers 4 orders.toml
pub of_both : parted (codes "-C" ∷ codes "shop" ∷ codes "run" ∷ codes "--workers" ∷ codes "4" ∷ codes "orders.toml" ∷ [])
    ≡ record { folder = Some (codes "shop"); file = Some (codes "orders.toml"); words = codes "run" ∷ codes "--workers" ∷ codes "4" ∷ [] }
unfolding clap_on_literals
of_both = refl

-- tps show orders.toml, which reads nothing
pub of_neither : parted (codes "show" ∷ codes "orders.toml" ∷ []) ≡ record { folder = None; file = None; words = codes "show" ∷ codes "orders.toml" ∷ [] }
unfolding clap_on_literals
of_neither = refl

-- tps run --werkers: an option is no file
pub of_an_option : parted (codes "run" ∷ codes "--werkers" ∷ []) ≡ record { folder = None; file = None; words = codes "run" ∷ codes "--werkers" ∷ [] }
unfolding clap_on_literals
of_an_option = refl

-- Intermediate: the code's own terms, proved to come to the definitions of `model`.
-- What a call over the whole tree comes to, what amend asks for, and what same compares.
use Rattle.std.specs.Prelude.{false, List, [], ◌∷◌, ℕ, ◌+◌, ◌-◌, ◌%◌, eqb, ltb, Result, Ok, Err}
use Rattle.model.specs.declared.Refusal.{Refusal}
use Rattle.model.specs.declared.Register.{Register}
use Rattle.model.specs.Rulings.{value, refused, Effect}
use Rattle.model.specs.Requests.{refusal_number}
use Rattle.model.specs.Revocation.{Change, raise, lower}
use Rattle.sweeps.specs.Sweeping.{swept_by}
use Rattle.tree.specs.declared.amending.Amendment.{Amendment}
use Rattle.tree.specs.declared.comparing.Compared.{Compared}
use Rattle.tree.specs.declared.orders.Order.{Order}
use Rattle.tree.specs.declared.orders.Order.TheVariants.{Value, Sweep}

-- what an order comes to
abbrev pub order_effect : Register → Result Order Refusal → Effect Register
order_effect r (Ok (Value v)) = record { answer = value v; after = r }
order_effect r (Ok (Sweep s)) = swept_by r s
order_effect r (Err why) = record { answer = refused (refusal_number why); after = r }

-- ---- amend

-- what a change of the use limit n asks for: whether it is in its range, is 0, would fall below 0; and the limit after it
abbrev pub amendment_of : Change → ℕ → Amendment
amendment_of (raise d) n = record { ranged = ltb d 65536; zero = eqb d 0; below = false; limit = n + d % 65536 }
amendment_of (lower d) n = record { ranged = ltb d 65536; zero = eqb d 0; below = ltb n d; limit = n - d }

-- ---- same

-- what is compared, as the list of the model
abbrev pub numbers_of : Compared → List ℕ
numbers_of c =
    c.domain
    ∷ c.authority
    ∷ c.first
    ∷ c.last
    ∷ c.use_limit
    ∷ c.creation_limit
    ∷ c.hop_limit
    ∷ c.hours
    ∷ c.places
    ∷ c.devices
    ∷ []

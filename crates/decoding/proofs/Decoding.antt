-- A register read section by section, each from the place after the one before it, is `decode` of the bytes.
use mathlib.Core.Path.{◌≡◌, refl, sym, ap, ◌∙◌}
use mathlib.Core.List.{List}
use Prim.Native.Nat.{ℕ, zero, suc, ◌+◌}
use lib.ListN.{drop}
use lib.Seq.{drop-drop}
use Rattle.model.specs.declared.Role.{Role}
use Rattle.model.specs.declared.Capability.{Capability}
use Rattle.model.specs.declared.Session.{Session}
use Rattle.model.specs.declared.Register.{Register}
use Rattle.model.specs.Image.{item_or, chosen_length, after_chosen, map_at}

pub item-set : {A : Type 0} (blank : A) (read : List ℕ → A) (b : ℕ) (s : List ℕ) → (b ≡ 0 → ⊥) → item_or blank read b s ≡ read s
item-set blank read zero s h = absurd (h refl)
item-set blank read (suc b) s h = refl

-- what follows a section that begins at `at`
pub after_section : (s : List ℕ) (w v k at m next : ℕ) → m ≡ map_at w (drop at s) → next ≡ at + (w + chosen_length v m k) → after_chosen w v k (drop at s) ≡ drop next s
after_section s w v k at m next em en =
    drop-drop (w + chosen_length v (map_at w (drop at s)) k) at s
    ∙ ap (λ (x : ℕ). drop (at + (w + chosen_length v x k)) s) (sym em)
    ∙ ap (λ (x : ℕ). drop x s) (sym en)

-- ---- a register of its parts

abbrev pub register_of : ℕ → ℕ → List ℕ → List Role → ℕ → List Capability → List Session → Register
register_of t m ds rs n cs ss =
    record { clock = t; enrolled = m; domains = ds; roles = rs; count = n; capabilities = cs; sessions = ss }

pub same_register : {t t' m m' n : ℕ} {ds ds' : List ℕ} {rs rs' : List Role} {cs cs' : List Capability} {ss ss' : List Session}
    → t ≡ t' → m ≡ m' → ds ≡ ds' → rs ≡ rs' → cs ≡ cs' → ss ≡ ss' → register_of t m ds rs n cs ss ≡ register_of t' m' ds' rs' n cs' ss'
same_register e0 e1 e2 e3 e4 e5 = cc

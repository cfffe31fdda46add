-- What two assertions that say facts entail together: for the law of a contract that is an assertion of the kit's logic (`OneAnswer`). Assumes nothing.
use seplogic.Ra.Ura.{Ura}
use base.Logic.{ent, sep, via, mono∗, fst∗, snd∗}
use contract.Monad.{fact, fact_i, fact_mono, fact_use}

module _ {M : Type 1} (𝓤 : Ura M) where
  -- each assertion is a fact
  pub both_say : {φ ψ χ : Type 0} → (φ → ψ → χ) → ent 𝓤 (sep 𝓤 (fact 𝓤 φ) (fact 𝓤 ψ)) (fact 𝓤 χ)
  both_say {φ} {ψ} {χ} k = fact_use 𝓤 φ (fst∗ 𝓤 (fact 𝓤 φ) (fact 𝓤 ψ)) (λ x. fact_use 𝓤 ψ (snd∗ 𝓤 (fact 𝓤 φ) (fact 𝓤 ψ)) (λ y. fact_i 𝓤 χ _ (k x y)))

  -- each is two facts, of which the first is asked
  pub both_say_first : {φ ψ χ α β : Type 0} → (φ → ψ → χ) → ent 𝓤 (sep 𝓤 (sep 𝓤 (fact 𝓤 φ) (fact 𝓤 α)) (sep 𝓤 (fact 𝓤 ψ) (fact 𝓤 β))) (fact 𝓤 χ)
  both_say_first {φ} {ψ} {χ} {α} {β} k =
      via 𝓤 (sep 𝓤 (fact 𝓤 φ) (fact 𝓤 ψ)) (mono∗ 𝓤 (fst∗ 𝓤 (fact 𝓤 φ) (fact 𝓤 α)) (fst∗ 𝓤 (fact 𝓤 ψ) (fact 𝓤 β))) (both_say k)

  -- each is three
  pub three_say_first : {φ ψ χ α β γ δ : Type 0} → (φ → ψ → χ) → ent 𝓤 (sep 𝓤 (sep 𝓤 (fact 𝓤 φ) (sep 𝓤 (fact 𝓤 α) (fact 𝓤 β))) (sep 𝓤 (fact 𝓤 ψ) (sep 𝓤 (fact 𝓤 γ) (fact 𝓤 δ)))) (fact 𝓤 χ)
  three_say_first {φ} {ψ} {χ} {α} {β} {γ} {δ} k =
      via 𝓤 (sep 𝓤 (fact 𝓤 φ) (fact 𝓤 ψ)) (mono∗ 𝓤 (fst∗ 𝓤 (fact 𝓤 φ) (sep 𝓤 (fact 𝓤 α) (fact 𝓤 β))) (fst∗ 𝓤 (fact 𝓤 ψ) (sep 𝓤 (fact 𝓤 γ) (fact 𝓤 δ)))) (both_say k)

  -- two facts, of which the first is asked
  pub says_first : {φ χ α : Type 0} → (φ → χ) → ent 𝓤 (sep 𝓤 (fact 𝓤 φ) (fact 𝓤 α)) (fact 𝓤 χ)
  says_first {φ} {χ} {α} k = via 𝓤 (fact 𝓤 φ) (fst∗ 𝓤 (fact 𝓤 φ) (fact 𝓤 α)) (fact_mono 𝓤 φ χ k)

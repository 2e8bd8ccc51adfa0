-- What a step does to a state is what Bus does to the controller that the state is part of.
use Rattle.std.proofs.Common.{◌≡◌, ℕ, ◌<◌, ◌≤◌, Bool, true, false, cond, eqb, List, replicate, refl}
use Rattle.base.proofs.Tests.{tests}
use Rattle.settings.specs.declared.settings.Settings.{Settings}
use Rattle.settings.specs.declared.settings.Flag.TheVariants.{Incomplete, BytesIgnored}
use Rattle.settings.specs.Settings as settings_spec
use Rattle.bus.specs.Commands.{reply_limit}
use Rattle.bus.specs.declared.Controller.{Controller}
use Rattle.controller.specs.declared.state.BusState.{BusState}
use Rattle.bus.specs.Bus as bus
use Rattle.controller.specs.BusState.{state_of, assembled, alone, unescaped}

module _ (s : BusState) (σ : Settings) (body bytes : List ℕ) where
  pub start_assembled : assembled (state_of (bus.start (alone s))) σ body (replicate reply_limit 0) ≡ bus.start (assembled s σ body bytes)
  unfolding bus.start settings_spec.flagged
  start_assembled = by_test (bus.is_idle s.phase)
    where
      by_test : (t : Bool) →
          assembled (state_of (cond t (bus.started (alone s)) (bus.started (bus.flagged (alone s) Incomplete)))) σ body (replicate reply_limit 0)
          ≡ cond t (bus.started (assembled s σ body bytes)) (bus.started (bus.flagged (assembled s σ body bytes) Incomplete))
      by_test true = refl
      by_test false = refl

  pub outside_assembled : (b : ℕ) → assembled (state_of (bus.outside (alone s) b)) σ body bytes ≡ bus.outside (assembled s σ body bytes) b
  unfolding bus.outside settings_spec.flagged
  outside_assembled b = by_test (eqb b 0x00)
    where
      by_test : (t : Bool) →
          assembled (state_of (cond t (alone s) (bus.flagged (alone s) BytesIgnored))) σ body bytes
          ≡ cond t (assembled s σ body bytes) (bus.flagged (assembled s σ body bytes) BytesIgnored)
      by_test true = refl
      by_test false = refl

-- the branches of `inside` and `after`, by what the code's tests show
module _ (c : Controller) (b : ℕ) where
  pub feeds_escaped : c.escape ≡ true → bus.inside c b ≡ bus.feed c (unescaped b)
  unfolding unescaped bus.inside
  feeds_escaped e = search e

  pub opens : c.escape ≡ false → b ≡ 0x5A → bus.inside c b ≡ bus.escape_open c
  unfolding bus.inside
  opens e h = search (tests, e, h)

  pub feeds : c.escape ≡ false → (b ≡ 0x5A → ⊥) → bus.inside c b ≡ bus.feed c b
  unfolding bus.inside
  feeds e h = search (tests, e, h)

  pub starts : b ≡ 0xA5 → bus.after c b ≡ bus.start c
  unfolding bus.after
  starts h = search (tests, h)

  pub replies : (b ≡ 0xA5 → ⊥) → c.reply.sent < c.reply.len → bus.after c b ≡ bus.one_sent c
  unfolding bus.after
  replies h s = search (tests, h, s)

  pub ignores : (b ≡ 0xA5 → ⊥) → c.reply.len ≤ c.reply.sent → bus.is_idle c.phase ≡ true → bus.after c b ≡ bus.outside c b
  unfolding bus.after
  ignores h s i = search (tests, h, s, i)

  pub enters : (b ≡ 0xA5 → ⊥) → c.reply.len ≤ c.reply.sent → bus.is_idle c.phase ≡ false → bus.after c b ≡ bus.inside c b
  unfolding bus.after
  enters h s i = search (tests, h, s, i)

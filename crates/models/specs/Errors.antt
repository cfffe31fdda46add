-- The error figures. Document 01's table. Definitions only.
use Rattle.std.specs.Prelude.{List, [], ◌∷◌, ℤ, pos}
use Rattle.std.specs.Float.{binary32}
use Rattle.std.specs.Float.Ieee.{of_bits}
use Rattle.refusals.specs.Paper.{Paper, unless}
use Rattle.models.specs.declared.errors.WmmErrorModel.{WmmErrorModel}
use Rattle.models.specs.declared.records.ErrorRecord.{ErrorRecord}
use Rattle.models.specs.Epochs.{known_epoch, wrong_epoch}
use Rattle.models.specs.Records.{listed_errors}

-- 0.26, 5625, 0.21, 145, 128, 131, 94, 157
abbrev pub errors2020 : WmmErrorModel
errors2020 =
    record {
      declination_sigma_c = of_bits binary32 0x3e851eb8;
      declination_sigma_v = of_bits binary32 0x45afc800;
      inclination = of_bits binary32 0x3e570a3d;
      f = of_bits binary32 0x43110000;
      h = of_bits binary32 0x43000000;
      x = of_bits binary32 0x43030000;
      y = of_bits binary32 0x42bc0000;
      z = of_bits binary32 0x431d0000;
    }

-- 0.26, 5417, 0.20, 138, 133, 137, 89, 141
abbrev pub errors2025 : WmmErrorModel
errors2025 =
    record {
      declination_sigma_c = of_bits binary32 0x3e851eb8;
      declination_sigma_v = of_bits binary32 0x45a94800;
      inclination = of_bits binary32 0x3e4ccccd;
      f = of_bits binary32 0x430a0000;
      h = of_bits binary32 0x43050000;
      x = of_bits binary32 0x43090000;
      y = of_bits binary32 0x42b20000;
      z = of_bits binary32 0x430d0000;
    }

-- the two built-in records
abbrev pub built_in : List ErrorRecord
built_in = record { epoch_year = pos 2020; figures = errors2020 } ∷ record { epoch_year = pos 2025; figures = errors2025 } ∷ []

-- refusal 5, then what the built-in list gives
unfoldable pub error_says : ℤ → Paper WmmErrorModel
error_says e = unless (known_epoch e) wrong_epoch (listed_errors built_in e)

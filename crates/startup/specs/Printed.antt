-- The master values and starting values that source 003 prints. A line here is a line there; in IV_224 the crawl has the letter O for the digit 0 of C0B1817F.
use Rattle.std.specs.Prelude.{List, [], ◌∷◌, ◌++◌, ℕ, replicate}
use Rattle.family.specs.declared.Family.{Family}
use Rattle.family.specs.declared.Family.TheVariants.{Small, Large}

-- the eight words of the small family's chain, with zeros behind them
abbrev small : List ℕ → List ℕ
small xs = xs ++ replicate 8 0

-- Sections 4.1.4 and 4.2.4: MIV_256 and MIV_512.
unfoldable pub printed_master : Family → List ℕ
printed_master Small =
    small (
    0xACCF8F80 ∷ 0x96589E66 ∷ 0x43361E2F ∷ 0xECC26B0F ∷
    0xD74AFFA7 ∷ 0xFEDA3472 ∷ 0xFAEC19EA ∷ 0xEE4C3008 ∷ []
    )
printed_master Large =
    0xF0C11673 ∷ 0x6F0196F5 ∷ 0xECCBD1EA ∷ 0xA6C59471 ∷
    0x44AC3847 ∷ 0x3BC53CB3 ∷ 0xAD11AF21 ∷ 0x4529BC86 ∷
    0x0F2CFBA2 ∷ 0xC73C31B7 ∷ 0xB095486E ∷ 0x264A9D3F ∷
    0x73B16228 ∷ 0x6FF3790A ∷ 0xE03124CD ∷ 0xF1320A9F ∷ []

-- Table 2.
unfoldable pub iv160 : List ℕ
iv160 =
    small (
    0xE9E6C691 ∷ 0x3DA59359 ∷ 0x8FAEBDBB ∷ 0x1B797F0B ∷
    0x55712ABD ∷ 0xF639EE21 ∷ 0xFDE027CE ∷ 0x8891EC2F ∷ []
    )

unfoldable pub iv224 : List ℕ
iv224 =
    small (
    0xC4C67795 ∷ 0xC0B1817F ∷ 0xEAD88924 ∷ 0x1ABB1BB0 ∷
    0xE0C29152 ∷ 0xBDE046BA ∷ 0xAEEECF99 ∷ 0x58D509D8 ∷ []
    )

unfoldable pub iv256 : List ℕ
iv256 =
    small (
    0x3EECF551 ∷ 0xBF10819B ∷ 0xE6DC8559 ∷ 0xF3E23FD5 ∷
    0x431AEC73 ∷ 0x79E3F731 ∷ 0x98325F05 ∷ 0xA92A31F1 ∷ []
    )

-- Table 3.
unfoldable pub iv384 : List ℕ
iv384 =
    0x71F48510 ∷ 0xA903A8AC ∷ 0xFE3216DD ∷ 0x0B2D2AD4 ∷
    0x6672900A ∷ 0x41032819 ∷ 0x15A7D780 ∷ 0xB3CAB8D9 ∷
    0x34EF4711 ∷ 0xDE019FE8 ∷ 0x4D674DC4 ∷ 0xE056D96B ∷
    0xA35C016B ∷ 0xDD903BA7 ∷ 0x8C1B09B4 ∷ 0x2C3E9F25 ∷ []

unfoldable pub iv512 : List ℕ
iv512 =
    0xD5652B63 ∷ 0x25F1E6EA ∷ 0xB18F48FA ∷ 0xA1EE3A47 ∷
    0xC8B67B07 ∷ 0xBDCE48D3 ∷ 0xE3937B78 ∷ 0x05DB5186 ∷
    0x613BE326 ∷ 0xA11FA303 ∷ 0x90C833D4 ∷ 0x79CEE316 ∷
    0x1E1AF00F ∷ 0x2829B165 ∷ 0x23B25F80 ∷ 0x21E11499 ∷ []

mod TellingLaws

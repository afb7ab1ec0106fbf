mod LookUpLaws
